-- The events of a list that a crew is to do again (docs/HISTORIES.md, "History text").
use Rattle.std.specs.Prelude.{◌≡◌, ◌<◌, ◌≤◌, ◌^◌, ℕ, true, false, List, length, get_or, IsSome}
use Rattle.np_syntax.specs.declared.event.Event.{Event}
use Rattle.np_syntax.specs.declared.program.LowProgram.{LowProgram}
use Rattle.np_calculus.specs.Reductions.{run}
use Rattle.np_calculus.specs.Starts.{start_low}
use Rattle.run_save.specs.following.Following.{AreOf, events_at}
use Rattle.run_save.specs.Ours.{IsOurs, StopsBeingOurs}
use Rattle.site_crew.specs.Crews.{CrewState}
use Rattle.site_crew.specs.declared.follow_fail.FollowFail.{FollowFail}
use Rattle.site_crew.specs.declared.follow_fail.FollowFail.TheVariants as fail

-- none of so many sites has more events in the list than the budget
pub record AreWithin (sites budget : ℕ) (events : List Event) : Type 0 where
  pub each : (s : ℕ) → s < sites → events_at s events ≤ budget

-- of those that have, this is the one with the least number
pub record IsFirstPast (sites budget : ℕ) (events : List Event) (s : ℕ) : Type 0 where
  pub site : s < sites
  pub more : budget < events_at s events
  pub before : (u : ℕ) → u < s → events_at u events ≤ budget

-- a run of the program that its sites make by themselves, within the budget
pub record IsToFollow (low : LowProgram) (budget : ℕ) (events : List Event) : Type 0 where
  pub runs : IsSome (run (start_low low) events)
  pub few : length events < 2 ^ 32
  pub within : AreWithin (length low.sites) budget events
  pub ours : IsOurs low events

-- why the list is refused before any of its events is done
abbrev pub IsRefused : LowProgram → ℕ → List Event → FollowFail → Type 0
IsRefused low budget events (fail.BudgetPast s) = IsFirstPast (length low.sites) budget events s
IsRefused low budget events (fail.NotOurs i) = AreWithin (length low.sites) budget events × StopsBeingOurs (start_low low) events i
IsRefused low budget events fail.Memory = Unit {0}

-- ---- a crew

-- the list is one to follow, the merged histories are just its events, with the stamps 1, 2, 3 and so on, and each clock is at their number
pub record HasFollowed (low : LowProgram) (events : List Event) (c : CrewState) : Type 0 where
  pub within : AreWithin (length low.sites) c.budget events
  pub ours : IsOurs low events
  pub of : AreOf events c.histories
  pub clocks : (s : ℕ) → s < length c.histories → get_or c.clocks s 0 ≡ length events
  pub sound : c.failed ≡ false

-- no site has more events in the list than the budget, the merged histories are just these events, with the stamps 1, 2, 3 and so on,
-- and each clock is at their number
pub record HasRedone (events : List Event) (c : CrewState) : Type 0 where
  pub within : AreWithin (length c.code.sites) c.budget events
  pub of : AreOf events c.histories
  pub clocks : (s : ℕ) → s < length c.histories → get_or c.clocks s 0 ≡ length events
  pub sound : c.failed ≡ false

-- A site has more events in the list than the budget, and this is the first such site; or none has, and this is the index of the event
-- at which the list stops being ours. Then the crew is as it was. Or memory was wanting.
abbrev pub HasFailed : LowProgram → List Event → CrewState → CrewState → FollowFail → Type 0
HasFailed low events old new (fail.BudgetPast s) = IsFirstPast (length low.sites) old.budget events s × (new ≡ old)
HasFailed low events old new (fail.NotOurs i) = AreWithin (length low.sites) old.budget events × StopsBeingOurs (start_low low) events i
    × (new ≡ old)
HasFailed low events old new fail.Memory = new.failed ≡ true
