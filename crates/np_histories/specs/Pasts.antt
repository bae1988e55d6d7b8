-- The past of a printed value, in a history of a low program (docs/HISTORIES.md, "Views of a run").
use Rattle.std.specs.Prelude.{◌≡◌, ◌+◌, ◌-◌, ◌<◌, ◌≤◌, ℕ, List, length, take, Some, slice_get}
use Rattle.np_syntax.specs.declared.event.Event.{Event}
use Rattle.np_syntax.specs.declared.program.LowProgram.{LowProgram}
use Rattle.np_syntax.specs.declared.value.Value.{Value}
use Rattle.np_calculus.specs.Config.{Config}
use Rattle.np_calculus.specs.Reductions.{run}
use Rattle.np_calculus.specs.Starts.{start_low}
use Rattle.run_views.specs.Saying.{prints}
use Rattle.run_views.specs.Pasts.{IsPastRun, IsPrint}
use Rattle.history_text.specs.declared.format.Format.{Format}
use Rattle.history_text.specs.Spelling.{history_text}
use Rattle.np_verdict.specs.Report.{past_text}
use Rattle.np_verdict.specs.declared.refusal.Refusal.{Refusal}
use Rattle.np_verdict.specs.declared.refusal.Refusal.TheVariants.{NoLine}

-- ---- lines, counted from 1

-- the events are a run of the low program, and this is what it printed
pub record HasPrinted (low : LowProgram) (events : List Event) (said : List (ℕ × Value)) : Type 0 where
  pub last : Config
  pub reaches : run (start_low low) events ≡ Some last
  pub is : last.said ≡ said

-- the line of what the events printed is this
pub record IsLine (low : LowProgram) (events : List Event) (line : ℕ) (item : ℕ × Value) : Type 0 where
  pub said : List (ℕ × Value)
  pub printed : HasPrinted low events said
  pub some : 1 ≤ line
  pub its : slice_get said (line - 1) ≡ Some item

-- the events are a run, and print as many lines
pub record PrintsLine (low : LowProgram) (events : List Event) (line : ℕ) : Type 0 where
  pub last : Config
  pub reaches : run (start_low low) events ≡ Some last
  pub some : 1 ≤ line
  pub within : line ≤ prints events

-- the event at this index printed the line
pub record IsPrintOf (events : List Event) (line index : ℕ) : Type 0 where
  pub is : IsPrint (slice_get events index)
  pub before : prints (take index events) + 1 ≡ line

-- ---- the past of a line

-- the past of the event that printed the line, which is a run that prints just its value
pub record IsPastOfLine (low : LowProgram) (events : List Event) (line : ℕ) (led : List Event) : Type 0 where
  pub index : ℕ
  pub print : IsPrintOf events line index
  pub past : IsPastRun low events index led

-- the report of it, with the line, whose events are written in a format
pub record TellsPast (format : Format) (low : LowProgram) (events : List Event) (line : ℕ) (text : List ℕ) : Type 0 where
  pub led : List Event
  pub is : IsPastOfLine low events line led
  pub item : ℕ × Value
  pub its : IsLine low events line item
  pub value : is.past.item ≡ item
  pub report : text ≡ past_text low.sites item (history_text format led) (length led)

-- ---- no such line

-- the events are a run of the low program that printed fewer lines, and the refusal has their number
pub record LacksLine (low : LowProgram) (events : List Event) (line : ℕ) (refusal : Refusal) : Type 0 where
  pub said : List (ℕ × Value)
  pub printed : HasPrinted low events said
  pub few : length said < line
  pub is : refusal ≡ NoLine (length said)
