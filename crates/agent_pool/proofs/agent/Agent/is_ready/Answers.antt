use Rattle.std.proofs.Common.{◌↔◌, IsTrue, subst}
use Rattle.agent_pool.specs.Pools.{Pool, atoms_of}
use Rattle.agent_pool.specs.Readies.{IsReady}
use Rattle.agent_pool.proofs.agent.Agent.is_ready.Goals as goal

pub returns : goal.returns
returns c =
    subst (λ (p : Pool). IsTrue c.can_do.result ↔ IsReady c.args.code.now (atoms_of c.args.code.now.processes p) c.args.r) c.self.view_is (c.can_do.ensures c.self.inside.name)
