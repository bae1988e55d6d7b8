use Rattle.std.proofs.Common.{arith}
use Rattle.std.proofs.lemmas.Grind.{common_steps}
use Rattle.agent_pool.proofs.Files.{beginnings}
use Rattle.agent_pool.proofs.agent.Agent.with_atom.Goals as goal

pub returns-clause-filed : goal.returns-clause-filed
returns-clause-filed g c = grind (arith, common_steps, beginnings)
