-- What is noted of a run is what is left of it.
use Rattle.std.proofs.Common.{◌≡◌, ℕ, List, length, drop, slice_get, refl, sym, ap, ◌∙◌}
use Rattle.std.proofs.Math.Seq.{drop-append_seam}
use Rattle.np_syntax.specs.Options.{◌>>=◌}
use Rattle.np_syntax.specs.declared.event.Event.{Event}
use Rattle.np_calculus.specs.Config.{Config}
use Rattle.run_save.specs.declared.trips.Item.{Item}
use Rattle.run_save.specs.declared.trips.Link.{Link}
use Rattle.run_save.specs.declared.notes.Links.{Links}
use Rattle.run_save.specs.declared.notes.Notes.{Notes}
use Rattle.run_save.specs.Left.{first_beside, left_on, link, names_made, noted_count, noted_first}
use Rattle.run_save.specs.Notes.{AreNoted, Tells, waiting}
use Rattle.run_save.specs.Travels.{Travels, on_link, sender, travels}

-- what waits is what is left
pub waits-left : (links : Links) (t : Travels) → Tells links t → (l : Link) → waiting links.queues l ≡ left_on t l
waits-left links t told l =
    sym (ap (drop (length (on_link l t.taken))) (told.waits l) ∙ drop-append_seam (on_link l t.taken) (waiting links.queues l))

module _ (notes : Notes) (start : Config) (events : List Event) (noted : AreNoted notes start events) where
  pub first-noted : noted_first notes ≡ first_beside (travels start events)
  first-noted = λ i x to. (
      ap (λ o. o >>= λ from. slice_get (waiting notes.links.queues (link from to)) 0) (noted.links.senders x)
      ∙ ap (λ (f : Link → List Item). sender (travels start events).put x >>= λ from. slice_get (f (link from to)) 0) (λ j l. waits-left notes.links (travels start events) noted.links l j)
      ) i

  pub count-noted : noted_count notes ≡ names_made events
  count-noted = λ i s. noted.counts s i
