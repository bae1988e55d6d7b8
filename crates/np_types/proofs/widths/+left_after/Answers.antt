use Rattle.std.proofs.Common.{arith}
use Rattle.std.proofs.lemmas.Grind.{common_steps}
use Rattle.np_types.proofs.Counts.{counts}
use Rattle.np_types.proofs.widths.+left_after.Goals as goal

pub left_after_all-loop-ty-preserved : goal.left_after_all-loop-ty-preserved
left_after_all-loop-ty-preserved t c = grind (arith, common_steps, counts)
