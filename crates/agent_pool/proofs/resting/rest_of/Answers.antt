use Rattle.std.proofs.Common.{arith}
use Rattle.std.proofs.lemmas.Grind.{common_steps}
use Rattle.agent_pool.proofs.resting.rest_of.Goals as goal

pub returns-in-Takes : goal.returns-in-Takes
returns-in-Takes c = grind (arith, common_steps)
