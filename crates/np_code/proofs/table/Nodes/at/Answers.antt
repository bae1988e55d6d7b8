use Rattle.std.proofs.Common.{◌≤◌, sym, subst, ◌∙◌}
use Rattle.np_code.proofs.Growth.{shown-in, nth-past, length-shown}
use Rattle.np_code.proofs.Layers.{plant-spare}
use Rattle.np_code.proofs.table.Nodes.at.Goals as goal

pub returns-then-index-nodes-clause-process : goal.returns-then-index-nodes-clause-process
returns-then-index-nodes-clause-process c = (shown-in c.self.inside.nodes c.index-nodes-index.result c.args.id _ c.self.view_is c.self.invariant.below (rw (← c.as_slice-nodes.ensures) c.if-index-nodes.true) (rw (← c.as_slice-nodes.ensures) c.index-nodes-index.is)).process

pub returns-then-index-nodes-clause-below : goal.returns-then-index-nodes-clause-below
returns-then-index-nodes-clause-below c = (shown-in c.self.inside.nodes c.index-nodes-index.result c.args.id _ c.self.view_is c.self.invariant.below (rw (← c.as_slice-nodes.ensures) c.if-index-nodes.true) (rw (← c.as_slice-nodes.ensures) c.index-nodes-index.is)).below

pub returns-else-index-nodes-clause-process : goal.returns-else-index-nodes-clause-process
returns-else-index-nodes-clause-process c =
    let few = subst (λ n. n ≤ c.args.id) (length-shown c.self.inside.nodes _ c.self.view_is) (rw (← c.as_slice-nodes.ensures) c.if-index-nodes.false) in
    rw (c.get.ensures, c.self.invariant.spare) (plant-spare c.args.self.now ∙ sym (nth-past c.args.self.now c.args.id few))
