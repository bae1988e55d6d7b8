use Rattle.std.proofs.Common.{arith}
use Rattle.std.proofs.lemmas.Grind.{common_steps}
use Rattle.agent_pool.proofs.idle.is_still.Goals as goal

pub returns-in-Some-Acts : goal.returns-in-Some-Acts
returns-in-Some-Acts c = grind (arith, common_steps)

pub returns-in_default : goal.returns-in_default
returns-in_default c = grind (arith, common_steps)

pub returns-in-Some-Takes : goal.returns-in-Some-Takes
returns-in-Some-Takes c = grind (arith, common_steps)
