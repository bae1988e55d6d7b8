use Rattle.std.proofs.Common.{arith}
use Rattle.std.proofs.lemmas.Grind.{common_steps}
use Rattle.site_state.proofs.outgoing.Outgoing.put.Goals as goal

pub put-requires : goal.put-requires
put-requires c = grind (arith, common_steps)
