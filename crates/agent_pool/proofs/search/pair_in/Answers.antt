use Rattle.std.proofs.Common.{arith}
use Rattle.std.proofs.lemmas.Grind.{common_steps}
use Rattle.agent_pool.proofs.Maps.{maps}
use Rattle.agent_pool.proofs.search.pair_in.Goals as goal

pub returns-clause-is : goal.returns-clause-is
returns-clause-is c = grind (arith, common_steps, maps)
