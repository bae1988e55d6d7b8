use Rattle.std.proofs.Common.{sym, subst}
use Rattle.agent_index.specs.InStep.{Lends, NoneWaits}
use Rattle.agent_pool.specs.Pools.{Pool, IsFiled}
use Rattle.agent_pool.specs.Waiting.{NoneWaitsOn, WaitOn}
use Rattle.agent_pool.proofs.Lending.{lends-filed, none-filed}
use Rattle.agent_pool.proofs.Walking.{match-to}
use Rattle.agent_pool.proofs.agent.Agent.waiting.Goals as goal

pub returns : goal.returns
returns c =
    let ts = c.args.code.now.processes in
    let items = c.self.inside.atoms.items in
    let chan = c.args.chan in
    let filed = subst (λ (p : Pool). IsFiled ts p.atoms) (sym c.self.view_is) c.requires in
    rw (← c.self.view_is)
    (match-to (NoneWaits items chan) (NoneWaitsOn ts items chan) (λ w. Lends items chan w.now) (λ w. WaitOn ts items chan w.now) c.waiting.result (none-filed ts items filed chan)
    (λ w l. lends-filed ts items filed chan w.now l) c.waiting.ensures)
