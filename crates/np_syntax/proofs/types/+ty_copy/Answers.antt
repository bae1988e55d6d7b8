use Rattle.std.proofs.Common.{arith}
use Rattle.std.proofs.lemmas.Grind.{common_steps}
use Rattle.np_syntax.proofs.types.+ty_copy.Goals as goal

pub copy_types-loop-ty-preserved : goal.copy_types-loop-ty-preserved
copy_types-loop-ty-preserved t c = grind (arith, common_steps)

pub copy_chan-returns : goal.copy_chan-returns
copy_chan-returns t c = grind (arith, common_steps)
