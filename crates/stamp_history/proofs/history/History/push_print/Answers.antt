use Rattle.std.proofs.Common.{◌<◌, length, sym, subst}
use Rattle.stamp_history.specs.Histories.{IsAboveLast}
use Rattle.stamp_history.proofs.Recording.{roomy-said}
use Rattle.stamp_history.proofs.history.History.push_print.Goals as goal

pub invariant_of-self : goal.invariant_of-self
invariant_of-self c =
    let fits = subst (λ s. length s.history.events < s.history.budget) (sym c.self.view_is) c.requires.room in
    let above = subst (λ s. IsAboveLast s.history.events c.args.stamp) (sym c.self.view_is) c.requires.stamp in
    rw (c.put_last.ensures.items, c.put_last-2.ensures.items) (roomy-said _ _ _ _ _ c.self.invariant fits above c.requires.kind c.put_last.ensures.room)
