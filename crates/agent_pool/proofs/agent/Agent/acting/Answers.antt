use Rattle.std.proofs.Common.{◌≡◌, None, Some, subst}
use Rattle.std.specs.FinMap as map
use Rattle.np_eval.specs.Forms.{layer}
use Rattle.agent_index.specs.Shelves.{value_of}
use Rattle.agent_pool.specs.Held.{proc_of, IsOutput, IsNode}
use Rattle.agent_pool.specs.Pools.{Pool}
use Rattle.agent_pool.specs.Rows.{NeverActs, ActsAs}
use Rattle.agent_pool.proofs.Acting.{none-never, out-never, node-acts}
use Rattle.agent_pool.proofs.Walking.{match-to}
use Rattle.agent_pool.proofs.agent.Agent.acting.Goals as goal

pub returns-in-Some : goal.returns-in-Some
returns-in-Some c =
    let code = c.args.code.now in
    let p = c.args.self.now in
    let r = c.args.r in
    let h = c.in-Some.held.now in
    let gets = subst (λ (q : Pool). Some h ≡ value_of (map.get q.atoms r.actor)) c.self.view_is c.in-Some.ensures in
    match-to (IsOutput (layer (proc_of code.processes h))) (NeverActs code p r) (λ found. IsNode code.processes h found.0.now found.1.now)
    (λ found. ActsAs code p r found.0.now found.1.now) c.node_of.result
    (out-never code p r h gets) (λ found is. node-acts code p r h gets found.0.now found.1.now is) c.node_of.ensures

pub returns-in-None : goal.returns-in-None
returns-in-None c =
    none-never c.args.code.now c.args.self.now c.args.r (subst
    (λ (q : Pool). None ≡ value_of (map.get q.atoms c.args.r.actor)) c.self.view_is c.in-None.ensures)
