use Rattle.std.proofs.Common.{sym, subst}
use Rattle.np_tables.specs.Names.{NameMap}
use Rattle.agent_index.specs.declared.index.Inner.{Inner}
use Rattle.agent_index.specs.InStep.{IsInStep}
use Rattle.agent_index.specs.Shelves.{Kept}
use Rattle.agent_index.proofs.InSteps.{step-cut, step-none}
use Rattle.agent_index.proofs.index.Index.take.Goals as goal

pub invariant_of-self : goal.invariant_of-self
invariant_of-self g c =
    let inside = c.deref_mut-inner.result.now in
    subst (λ (m : NameMap (Kept g.row.V.Denot)). IsInStep m inside.lanes.lanes) (sym c.take.ensures.items)
    (step-none inside.entries.items inside.lanes.lanes (subst (λ (i : Inner g.row.V.Denot). IsInStep i.entries.items i.lanes.lanes) (sym c.deref_mut-inner.ensures.value) c.self.invariant) c.args.mark (sym c.in_err-wait.ensures.value))

pub invariant_of-self-2 : goal.invariant_of-self-2
invariant_of-self-2 g c =
    let inside = c.deref_mut-inner.result.now in
    subst (λ (m : NameMap (Kept g.row.V.Denot)). IsInStep m c.leave.new.self.lanes) (sym c.take.ensures.items)
    (step-cut inside.entries.items inside.lanes.lanes (subst (λ (i : Inner g.row.V.Denot). IsInStep i.entries.items i.lanes.lanes) (sym c.deref_mut-inner.ensures.value) c.self.invariant) c.leave.new.self.lanes c.args.mark c.in_ok-wait.wait c.in_ok-wait.value (sym c.in_ok-wait.ensures.value) c.leave.ensures.lines)
