use Rattle.agent_pool.proofs.Same.{found-same}
use Rattle.agent_pool.proofs.decide.is_this.Goals as goal

pub returns-in-Some : goal.returns-in-Some
returns-in-Some c = found-same c.args.found c.in-Some.found c.args.r c.eq.result c.in-Some.is c.eq.ensures
