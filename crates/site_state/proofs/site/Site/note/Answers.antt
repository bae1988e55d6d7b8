use Rattle.std.proofs.Common.{None, refl, ap, ◌∙◌, arith}
use Rattle.stamp_history.specs.Histories.{Recorded}
use Rattle.site_state.proofs.Noted.{noted_stands, few_names}
use Rattle.site_state.proofs.site.Site.note.Goals as goal

pub invariant_of-self : goal.invariant_of-self
invariant_of-self c =
    let h = c.self.invariant.0 in
    let few = few_names c.args.made in
    let clock = h.clock in
    let count = c.names_in.ensures in
    let stamp = c.tick-stamp.ensures.stamp in (
      noted_stands _ _ _ None c.names_in.result h (omega arith) (omega arith) refl h.named refl c.tick-stamp.ensures.clock c.push.ensures.history,
      ap (λ (x : Recorded). x.budget) c.push.ensures.history ∙ c.self.invariant.1,
    )
