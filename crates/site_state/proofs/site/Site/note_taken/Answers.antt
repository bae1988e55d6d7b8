use Rattle.std.proofs.lemmas.Grind.{common_steps}
use Rattle.std.proofs.Common.{◌+◌, max, None, refl, ap, ◌∙◌, arith}
use Rattle.stamp_history.specs.Histories.{Recorded}
use Rattle.site_state.proofs.Noted.{above_more, noted_stands, few_names}
use Rattle.site_state.proofs.site.Site.note_taken.Goals as goal

pub record_taken-requires-clause-last : goal.record_taken-requires-clause-last
record_taken-requires-clause-last c = above_more c.self.inside.history.history.events (c.self.inside.clock + 1) (max c.self.inside.clock c.args.stamp + 1) (omega arith) c.self.invariant.0.last

pub invariant_of-self : goal.invariant_of-self
invariant_of-self c =
    let h = c.self.invariant.0 in
    let few = few_names c.args.event.made in
    let clock = h.clock in
    let count = c.names_in.ensures in
    let early = c.requires.stamp in (
      noted_stands _ _ _ None c.names_in.result h (omega arith) (omega arith) refl h.named refl c.record_taken.ensures.clock c.record_taken.ensures.history,
      ap (λ (x : Recorded). x.budget) c.record_taken.ensures.history ∙ c.self.invariant.1,
    )

pub returns : goal.returns
returns c = grind (arith, common_steps)
