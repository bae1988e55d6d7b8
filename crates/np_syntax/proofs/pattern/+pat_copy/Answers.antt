use Rattle.std.proofs.Common.{arith}
use Rattle.std.proofs.lemmas.Grind.{common_steps}
use Rattle.np_syntax.proofs.pattern.+pat_copy.Goals as goal

pub copy_pats-loop-pat-preserved : goal.copy_pats-loop-pat-preserved
copy_pats-loop-pat-preserved t c = grind (arith, common_steps)
