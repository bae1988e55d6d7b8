-- What is made of the text of a history, and what is wrong with it (docs/HISTORIES.md, "History text"; docs/COMMANDS.md, "Reports and
-- refusals").
use Rattle.std.specs.Prelude.{◌≡◌, ◌≤◌, ℕ, ◌⊎◌, List, length, Some}
use Rattle.np_syntax.specs.declared.event.Event.{Event}
use Rattle.np_syntax.specs.declared.program.LowProgram.{LowProgram}
use Rattle.np_calculus.specs.Config.{Config}
use Rattle.np_calculus.specs.Reductions.{run}
use Rattle.np_calculus.specs.Starts.{start_low}
use Rattle.history_text.specs.declared.fail.HistFail.{HistFail}
use Rattle.history_text.specs.declared.fail.HistFail.TheVariants as history
use Rattle.history_text.specs.declared.format.Format.{Format}
use Rattle.history_text.specs.declared.format.Format.TheVariants.{Second}
use Rattle.history_text.specs.Spelling.{history_text}
use Rattle.history_text.specs.Histories.{IsHistory, IsRefused}
use Rattle.np_serial.specs.declared.fail.ReplayFail.{ReplayFail}
use Rattle.np_serial.specs.declared.fail.ReplayFail.TheVariants as replay
use Rattle.np_serial.specs.Replays.{StopsAt}
use Rattle.np_verdict.specs.Report.{replay_text}
use Rattle.np_words.specs.Formats.{format_for}
use Rattle.np_words.specs.declared.modes.Infrastructure.{Infrastructure}
use Rattle.np_words.specs.declared.planning.View.{View}
use Rattle.np_words.specs.declared.planning.View.TheVariants as view
use Rattle.np_verdict.specs.declared.refusal.Refusal.{Refusal}
use Rattle.np_verdict.specs.declared.refusal.Refusal.TheVariants.{Memory, HistSyntax, NotARun}
use Rattle.np_histories.specs.Pasts.{LacksLine, TellsPast}

-- the refusals of histories and of their replay, as the program has them

abbrev pub of_history : HistFail → Refusal
of_history history.Memory = Memory
of_history (history.HistSyntax line) = HistSyntax line

abbrev pub of_replay : ReplayFail → Refusal
of_replay replay.Memory = Memory
of_replay (replay.NotARun index) = NotARun index

-- ---- what is accepted

-- the bytes are a history of these events
pub record IsRead (bytes : List ℕ) (events : List Event) : Type 0 where
  pub format : Format
  pub history : IsHistory bytes format events

-- the bytes are a history of some events
pub record HasEvents (bytes : List ℕ) : Type 0 where
  pub events : List Event
  pub read : IsRead bytes events

-- the run that ends so has what is to be shown of it
abbrev pub HasView : View → Config → Type 0
HasView view.Said last = Unit {0}
HasView (view.Past line) last = line ≤ length last.said

-- the bytes are a history of a run of the low program, which has what is to be shown of it
pub record HasRun (low : LowProgram) (shown : View) (bytes : List ℕ) : Type 0 where
  pub events : List Event
  pub read : IsRead bytes events
  pub last : Config
  pub reaches : run (start_low low) events ≡ Some last
  pub has : HasView shown last

-- ---- what is made

-- the events are a run of the low program, and this is the report of their replay
pub record Ends (low : LowProgram) (events : List Event) (text : List ℕ) : Type 0 where
  pub last : Config
  pub reaches : run (start_low low) events ≡ Some last
  pub report : text ≡ replay_text low.sites last.said (length events)

-- the events are a run of the low program, and this is the report of what is shown of it
abbrev pub Shows : Infrastructure → View → LowProgram → List Event → List ℕ → Type 0
Shows infrastructure view.Said low events text = Ends low events text
Shows infrastructure (view.Past line) low events text = TellsPast (format_for infrastructure) low events line text

-- the bytes are a history, and this is the report of its replay, with events as the infrastructure has them written
pub record Replays (infrastructure : Infrastructure) (low : LowProgram) (shown : View) (bytes text : List ℕ) : Type 0 where
  pub events : List Event
  pub read : IsRead bytes events
  pub shows : Shows infrastructure shown low events text

-- the bytes are a history, and this is its text in the second format
pub record Upgrades (bytes text : List ℕ) : Type 0 where
  pub events : List Event
  pub read : IsRead bytes events
  pub writes : text ≡ history_text Second events

-- ---- what is refused

-- the bytes are no history, from the line of the refusal on
pub record HasNoEvents (bytes : List ℕ) (refusal : Refusal) : Type 0 where
  pub line : ℕ
  pub is : refusal ≡ HistSyntax line
  pub refused : IsRefused bytes line

-- the events are no run from this start, from the index of the refusal on
pub record Stops (start : Config) (events : List Event) (refusal : Refusal) : Type 0 where
  pub index : ℕ
  pub is : refusal ≡ NotARun index
  pub stops : StopsAt start events index

-- the bytes are a history of events that are no run of the low program, from the index of the refusal on
pub record HasNoRun (low : LowProgram) (bytes : List ℕ) (refusal : Refusal) : Type 0 where
  pub events : List Event
  pub read : IsRead bytes events
  pub stops : Stops (start_low low) events refusal

-- the run has not what is to be shown of it
abbrev pub Lacks : View → LowProgram → List Event → Refusal → Type 0
Lacks view.Said low events refusal = ⊥
Lacks (view.Past line) low events refusal = LacksLine low events line refusal

-- the bytes are a history of a run that has not what is to be shown of it
pub record HasNoView (low : LowProgram) (shown : View) (bytes : List ℕ) (refusal : Refusal) : Type 0 where
  pub events : List Event
  pub read : IsRead bytes events
  pub lacks : Lacks shown low events refusal

-- the history is not replayed, or its run is not shown so
abbrev pub IsFaulty : LowProgram → View → List ℕ → Refusal → Type 0
IsFaulty low shown bytes refusal = HasNoEvents bytes refusal ⊎ HasNoRun low bytes refusal ⊎ HasNoView low shown bytes refusal
