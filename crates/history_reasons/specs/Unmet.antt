-- What is told of events that are no run (docs/PICTURES.md, "Refusals").
use Rattle.std.specs.Prelude.{◌≡◌, ℕ, List, Option, None, Some, take, slice_get}
use Rattle.np_syntax.specs.declared.event.Event.{Event}
use Rattle.np_syntax.specs.declared.program.LowProgram.{LowProgram}
use Rattle.np_calculus.specs.Config.{Config}
use Rattle.np_calculus.specs.Starts.{start_low}
use Rattle.np_serial.specs.Replays.{StopsAt}
use Rattle.source_places.specs.declared.reasons.Reasons.{Reasons}
use Rattle.np_calculus.specs.Reductions.{run}
use Rattle.history_conditions.specs.Conditions.{field_of, first_unmet}
use Rattle.history_conditions.specs.declared.condition.Condition.{Condition}
use Rattle.history_reasons.specs.declared.replayed.Failing.{Failing}

-- the first condition that the event fails there, with its field; none where each condition holds
abbrev pub IsFailing : Config → Event → Option Failing → Type 0
IsFailing c e (Some failing) = (first_unmet c e ≡ Some failing.condition) × (failing.field ≡ field_of failing.condition)
IsFailing c e None = first_unmet c e ≡ None

-- the events before the one of an index are a run, and that one fails a condition there
pub record FailsAt (q : LowProgram) (events : List Event) (index : ℕ) : Type 0 where
  pub reached : Config
  pub runs : run (start_low q) (take index events) ≡ Some reached
  pub event : Event
  pub is : slice_get events index ≡ Some event
  pub condition : Condition
  pub unmet : first_unmet reached event ≡ Some condition

-- what is told is of an event that fails a condition, and nothing is told only where the events do not stop being a run there
abbrev pub IsUnmetIn : LowProgram → List Event → ℕ → Option Reasons → Type 0
IsUnmetIn q events index (Some reasons) = FailsAt q events index
IsUnmetIn q events index None = StopsAt (start_low q) events index → ⊥
