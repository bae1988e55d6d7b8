-- How many lines events print, and how many events a site makes (docs/PICTURES.md, "Refusals").
use Rattle.std.specs.Prelude.{◌==◌, ℕ, List, count_by}
use Rattle.np_syntax.specs.Events.{is_print}
use Rattle.np_syntax.specs.declared.event.Event.{Event}

abbrev pub lines_printed : List Event → ℕ
lines_printed events = count_by (λ (e : Event). is_print e.kind) events

abbrev pub events_at : ℕ → List Event → ℕ
events_at site events = count_by (λ (e : Event). e.site == site) events
