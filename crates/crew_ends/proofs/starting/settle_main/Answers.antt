use Rattle.std.proofs.Common.{arith}
use Rattle.std.proofs.lemmas.Grind.{common_steps}
use Rattle.crew_ends.proofs.starting.settle_main.Goals as goal

pub settle_if-requires : goal.settle_if-requires
settle_if-requires c = grind (arith, common_steps)
