use Rattle.std.proofs.Common.{arith}
use Rattle.std.proofs.lemmas.Grind.{common_steps}
use Rattle.np_eval.proofs.Binds.{binds}
use Rattle.np_eval.proofs.patterns.bind.Goals as goal

pub returns-then-branch : goal.returns-then-branch
returns-then-branch c = grind (arith, common_steps, binds)

pub returns-else-branch : goal.returns-else-branch
returns-else-branch c = grind (arith, common_steps, binds)
