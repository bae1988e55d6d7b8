-- What the numbers of twins say (docs/PICTURES.md, "Pictures").
use Rattle.std.specs.Prelude.{◌≡◌, ℕ, List, take, Some, slice_get}
use Rattle.np_syntax.specs.declared.event.Event.{Event}
use Rattle.np_lift.specs.Lift as central
use Rattle.np_lift.specs.CachedLift as cached
use Rattle.run_twins.specs.Twins.{cached_twins, twins}

-- the event of a number becomes this one of the source
pub record IsReadOff (events : List Event) (twin : ℕ) (high : Event) : Type 0 where
  pub low : Event
  pub there : slice_get events twin ≡ Some low
  pub becomes : central.lifted low ≡ Some high

-- the same with caches, where marks stand for what they do after the events before
pub record IsCachedReadOff (s : cached.Standing) (events : List Event) (twin : ℕ) (high : Event) : Type 0 where
  pub low : Event
  pub there : slice_get events twin ≡ Some low
  pub becomes : (cached.lifted (cached.standing_after s (take twin events)) low).event ≡ Some high

-- each event of the source is read off from its twin
abbrev pub TwinsAreReadOff : Type 0
TwinsAreReadOff = (events : List Event) (k twin : ℕ) (high : Event) → slice_get (twins events) k ≡ Some twin
    → slice_get (central.lift events) k ≡ Some high → IsReadOff events twin high

abbrev pub CachedTwinsAreReadOff : Type 0
CachedTwinsAreReadOff = (events : List Event) (k twin : ℕ) (high : Event) → slice_get (cached_twins events) k ≡ Some twin
    → slice_get (cached.lift_cached events) k ≡ Some high → IsCachedReadOff cached.at_first events twin high
