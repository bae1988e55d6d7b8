use Rattle.std.proofs.Common.{arith}
use Rattle.std.proofs.lemmas.Grind.{common_steps}
use Rattle.np_code.proofs.NodeCounts.{counts}
use Rattle.np_code.specs.Sizes.{capped}
use Rattle.np_code.proofs.sizes.+sizes.Goals as goal

pub count-count_part-requires-2 : goal.count-count_part-requires-2
unfolding capped
count-count_part-requires-2 t c = grind (arith, common_steps, counts)

pub count-returns : goal.count-returns
unfolding capped
count-returns t c = grind (arith, common_steps, counts)
