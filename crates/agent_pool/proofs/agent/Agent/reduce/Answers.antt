use Rattle.std.proofs.Common.{arith}
use Rattle.std.proofs.lemmas.Grind.{common_steps}
use Rattle.agent_pool.proofs.Maps.{maps}
use Rattle.agent_pool.proofs.agent.Agent.reduce.Goals as goal

pub returns-clause-row : goal.returns-clause-row
returns-clause-row g c = grind (arith, common_steps, maps)
