-- The events of the sites from which those of the source are read off (docs/PICTURES.md, "Pictures").
use Rattle.std.specs.Prelude.{ℕ, ◌+◌, Bool, true, false, List, [], ◌∷◌, ◌++◌, is_some}
use Rattle.np_syntax.specs.declared.event.Event.{Event}
use Rattle.np_lift.specs.Lift as central
use Rattle.np_lift.specs.CachedLift as cached

abbrev pub one_if : Bool → ℕ → List ℕ
one_if true at = at ∷ []
one_if false at = []

-- the numbers of the events that become one of the source, from this number on
abbrev pub twins_from : ℕ → List Event → List ℕ
twins_from at [] = []
twins_from at (e ∷ es) = one_if (is_some (central.lifted e)) at ++ twins_from (at + 1) es

abbrev pub twins : List Event → List ℕ
twins events = twins_from 0 events

-- the same with caches, where marks stand for these
abbrev pub cached_from : cached.Standing → ℕ → List Event → List ℕ
cached_from s at [] = []
cached_from s at (e ∷ es) = one_if (is_some (cached.lifted s e).event) at ++ cached_from (cached.lifted s e).standing (at + 1) es

abbrev pub cached_twins : List Event → List ℕ
cached_twins events = cached_from cached.at_first 0 events
