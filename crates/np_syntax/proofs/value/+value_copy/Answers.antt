use Rattle.std.proofs.Common.{arith}
use Rattle.std.proofs.lemmas.Grind.{common_steps}
use Rattle.np_syntax.proofs.value.+value_copy.Goals as goal

pub copy_values-loop-value-preserved : goal.copy_values-loop-value-preserved
copy_values-loop-value-preserved t c = grind (arith, common_steps)

pub copy_letter-returns : goal.copy_letter-returns
copy_letter-returns t c = grind (arith, common_steps)
