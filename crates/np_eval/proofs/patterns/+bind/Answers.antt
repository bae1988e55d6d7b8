use Rattle.std.proofs.Common.{arith}
use Rattle.std.proofs.lemmas.Grind.{common_steps}
use Rattle.np_eval.proofs.Binds.{binds}
use Rattle.np_eval.proofs.patterns.+bind.Goals as goal

pub put_form-returns-in_ok-set-in-Bind : goal.put_form-returns-in_ok-set-in-Bind
put_form-returns-in_ok-set-in-Bind t c = grind (arith, common_steps, binds)

pub put_all-returns-then-not-branch : goal.put_all-returns-then-not-branch
put_all-returns-then-not-branch t c = grind (arith, common_steps, binds)

pub put_all-loop-at-preserved : goal.put_all-loop-at-preserved
put_all-loop-at-preserved t c = grind (arith, common_steps, binds)
