use Rattle.std.proofs.Common.{refl, sym, subst, ◌∙◌}
use Rattle.np_tables.specs.Names.{NameMap}
use Rattle.np_tables.proofs.Tables.{put-cut}
use Rattle.std.specs.FinMap as map
use Rattle.agent_index.specs.InStep.{IsInStep}
use Rattle.agent_index.specs.Shelves.{Kept}
use Rattle.agent_index.proofs.InSteps.{gone, step-put}
use Rattle.agent_index.proofs.index.Index.put.Goals as goal

pub invariant_of-self : goal.invariant_of-self
invariant_of-self g c =
    let items = c.deref_mut-inner.result.now.entries.items in let kept : Kept g.row.V.Denot = (c.args.wait, c.args.value) in
    subst (λ (m : NameMap (Kept g.row.V.Denot)). IsInStep m c.enter.new.self.lanes) (put-cut items c.args.mark kept ∙ sym c.put.ensures.items)
    (step-put (map.remove items c.args.mark) c.leave.new.lanes.lanes c.leave.ensures.step c.enter.new.self.lanes c.args.mark c.args.wait c.args.value (gone _ items c.args.mark refl) c.enter.ensures.lines)
