-- What following a list of events answers (docs/COMMANDS.md, "Reports and refusals").
use Rattle.std.specs.Prelude.{◌≡◌, ℕ, ◌+◌, ◌<◌, List, length, take, None}
use Rattle.np_syntax.specs.declared.event.Event.{Event}
use Rattle.np_calculus.specs.Config.{Config}
use Rattle.np_calculus.specs.Reductions.{run}
use Rattle.np_calculus.specs.Well.{Has}
use Rattle.np_serial.specs.declared.fail.ReplayFail.{ReplayFail}
use Rattle.np_serial.specs.declared.fail.ReplayFail.TheVariants as fail

-- so many of the first events are a run, and one more is none
pub record StopsAt (start : Config) (events : List Event) (index : ℕ) : Type 0 where
  pub within : index < length events
  pub before : Has (run start (take index events))
  pub none : run start (take (index + 1) events) ≡ None

-- what a refusal says of the events
abbrev pub IsRefusal : Config → List Event → ReplayFail → Type 0
IsRefusal start events fail.Memory = Unit {0}
IsRefusal start events (fail.NotARun index) = StopsAt start events index

-- The events are a run, or stop being one at just one index, and not both.
pub record HasOneEnd (start : Config) (events : List Event) : Type 0 where
  pub stops : run start events ≡ None → (index : ℕ) × StopsAt start events index
  pub none : (index : ℕ) → StopsAt start events index → run start events ≡ None
  pub index : (one other : ℕ) → StopsAt start events one → StopsAt start events other → one ≡ other
