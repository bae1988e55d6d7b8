-- Which words ask for what (docs/COMMANDS.md, "Reports and refusals"): those that are taken, and meet the table of the modes that are
-- built.
use Rattle.std.specs.Prelude.{◌≡◌, ℕ, ◌≤◌, Bool, true, false, ◌&&◌, ◌||◌, not, List, Option, Some, None, is_some, Result, Ok, Err}
use Rattle.clap.specs.Words.{Text}
use Rattle.np_syntax.specs.Options.{◌>>=◌, ◌>>◌, need}
use Rattle.np_syntax.specs.declared.limits.TheConstants.{LARGEST_BUDGET, USUAL_BUDGET}
use Rattle.np_generate.specs.declared.source.TheConstants.{MOST_AGENTS}
use Rattle.np_words.specs.Arguments.{Given, taken}
use Rattle.np_words.specs.Modes.{entry_of, infrastructure_of, number_of, links_of}
use Rattle.np_words.specs.declared.modes.Entry.{Entry}
use Rattle.np_words.specs.declared.modes.Options.{Options}
use Rattle.np_words.specs.declared.modes.Links.{Links}
use Rattle.np_words.specs.declared.modes.Links.TheVariants.{Rings}
use Rattle.np_words.specs.declared.modes.Infrastructure.{Infrastructure}
use Rattle.np_words.specs.declared.modes.Infrastructure.TheVariants.{Central}
use Rattle.np_words.specs.declared.modes.HighText.{HighText}
use Rattle.np_words.specs.declared.modes.HighText.TheVariants.{Absent, TwoSteps, OneStep}
use Rattle.np_words.specs.declared.numerals.TheConstants.{FIRST_LINE, LAST_LINE, LINE_DIGITS, MOST_DIGITS}
use Rattle.np_words.specs.declared.modes.Mode.{Mode}
use Rattle.np_words.specs.declared.modes.Mode.TheVariants as modes
use Rattle.np_words.specs.declared.planning.Plan.{Plan}
use Rattle.np_words.specs.declared.planning.Plan.TheVariants as plans
use Rattle.np_words.specs.declared.planning.View.{View}
use Rattle.np_words.specs.declared.planning.View.TheVariants as views
use Rattle.np_words.specs.declared.planning.Task.{Task}
use Rattle.np_words.specs.declared.planning.Task.TheVariants as tasks
use Rattle.np_words.specs.declared.fail.PlanFail.{PlanFail}
use Rattle.np_words.specs.declared.fail.PlanFail.TheVariants.{Memory, Usage}

-- a word stands there only where it may
abbrev pub only : Bool → Bool → Bool
only may stands = may || not stands

abbrev pub same : Bool → Bool → Bool
same true b = b
same false b = not b

-- no option on how a run goes stands there that the mode does not have, and none on what is shown
abbrev pub runs_so : Options → Given → Bool
runs_so options given =
    only options.budget (is_some given.budget) && only options.serial given.serial && only options.links (is_some given.links)
    && only options.infrastructure (is_some given.infrastructure)

abbrev pub shows_so : Options → Given → Bool
shows_so options given = only options.history given.history && only options.high given.high && only options.line (is_some given.line)
    && only options.one given.one

-- SECOND stands there exactly where the mode has one, and no option that the mode does not have
abbrev pub is_met : Entry → Given → Bool
is_met entry given = same entry.second (is_some given.second) && runs_so entry.options given && shows_so entry.options given

abbrev pub entry_given : Option Text → Option Entry
entry_given word = word >>= entry_of

abbrev pub budget_of : Option Text → Option ℕ
budget_of None = Some USUAL_BUDGET
budget_of (Some word) = number_of MOST_DIGITS LARGEST_BUDGET word

abbrev pub line_of : Option Text → Option ℕ
line_of None = Some FIRST_LINE
line_of (Some word) = number_of LINE_DIGITS LAST_LINE word

-- the text of the events of the high level, where it is asked for or not; `--one` stands only where it is
abbrev pub high_text : Bool → Bool → Option HighText
high_text false false = Some Absent
high_text false true = None
high_text true false = Some TwoSteps
high_text true true = Some OneStep

abbrev pub kind_of : Option Text → Option Links
kind_of None = Some Rings
kind_of (Some word) = links_of word

abbrev pub infrastructure_given : Option Text → Option Infrastructure
infrastructure_given None = Some Central
infrastructure_given (Some word) = infrastructure_of word

-- ---- the options of a mode that reads one source

abbrev pub run_of : Given → Option Task
run_of given = do
  budget ← budget_of given.budget
  high ← high_text given.high given.one
  links ← kind_of given.links
  infrastructure ← infrastructure_given given.infrastructure
  Some (tasks.Run budget given.history high given.serial links infrastructure)

abbrev pub high_of : Given → Option Task
high_of given = do
  budget ← budget_of given.budget
  history ← high_text given.history given.one
  Some (tasks.High budget history)

abbrev pub low_of : Given → Option Task
low_of given = do
  infrastructure ← infrastructure_given given.infrastructure
  Some (tasks.Low infrastructure)

-- ---- what FILE and SECOND are

-- FILE is a source
abbrev pub on_source : Text → Option Task → Option Plan
on_source file what = do
  task ← what
  Some (plans.Source file task)

-- FILE is a source, SECOND a history
abbrev pub on_history : Text → Given → Option View → Option Plan
on_history file given shown = do
  history ← given.second
  infrastructure ← infrastructure_given given.infrastructure
  view ← shown
  Some (plans.Replay file history infrastructure view)

-- FILE is a source, SECOND a saved history from which on it is run
abbrev pub resume_of : Text → Given → Option Plan
resume_of file given = do
  saved ← given.second
  budget ← budget_of given.budget
  links ← kind_of given.links
  infrastructure ← infrastructure_given given.infrastructure
  Some (plans.Resume file saved budget given.history given.high given.serial links infrastructure)

-- the past of the line that the words say
abbrev pub past_of : Given → Option View
past_of given = do
  line ← line_of given.line
  Some (views.Past line)

-- FILE is a number
abbrev pub generate_of : Text → Option Plan
generate_of file = do
  agents ← number_of MOST_DIGITS MOST_AGENTS file
  Some (plans.Generate agents)

-- FILE is a number, and the generated source of so many agents is run
abbrev pub load_of : Text → Given → Option Plan
load_of file given = do
  agents ← number_of MOST_DIGITS MOST_AGENTS file
  links ← kind_of given.links
  infrastructure ← infrastructure_given given.infrastructure
  Some (plans.Load agents given.serial links infrastructure)

-- FILE is a history
abbrev pub upgrade_of : Text → Option Plan
upgrade_of file = Some (plans.Upgrade file)

abbrev pub plan_for : Mode → Text → Given → Option Plan
plan_for modes.Run file given = on_source file (run_of given)
plan_for modes.High file given = on_source file (high_of given)
plan_for modes.Show file given = on_source file (Some tasks.Show)
plan_for modes.Check file given = on_source file (Some tasks.Check)
plan_for modes.Low file given = on_source file (low_of given)
plan_for modes.Replay file given = on_history file given (Some views.Said)
plan_for modes.Past file given = on_history file given (past_of given)
plan_for modes.Resume file given = resume_of file given
plan_for modes.Upgrade file given = upgrade_of file
plan_for modes.Gen file given = generate_of file
plan_for modes.Load file given = load_of file given

-- ---- plans

abbrev pub planned : Given → Option Plan
planned given = do
  entry ← entry_given given.mode
  file ← given.file
  need (is_met entry given)
  plan_for entry.mode file given

unfoldable pub plan : List Text → Option Plan
plan words = taken words >>= planned

-- a run has a budget that the words may say
abbrev pub HasBudget : Task → Type 0
HasBudget (tasks.Run budget history high serial links infrastructure) = (1 ≤ budget) × (budget ≤ LARGEST_BUDGET)
HasBudget _ = Unit {0}

-- lines are counted from 1
abbrev pub HasLine : View → Type 0
HasLine views.Said = Unit {0}
HasLine (views.Past line) = 1 ≤ line

-- a run has such a budget, also one that goes on from a saved history, a past is that of a line, and a generated source has as many
-- agents as it may have
abbrev pub IsWithinLimits : Plan → Type 0
IsWithinLimits (plans.Source file task) = HasBudget task
IsWithinLimits (plans.Replay source history infrastructure view) = HasLine view
IsWithinLimits (plans.Resume source saved budget history high serial links infrastructure) = (1 ≤ budget) × (budget ≤ LARGEST_BUDGET)
IsWithinLimits (plans.Generate agents) = (1 ≤ agents) × (agents ≤ MOST_AGENTS)
IsWithinLimits (plans.Load agents serial links infrastructure) = (1 ≤ agents) × (agents ≤ MOST_AGENTS)
IsWithinLimits _ = Unit {0}

-- a plan exactly where the words have one, and a usage fault exactly where they have none; memory aside
abbrev pub Plans : Option Plan → Result Plan PlanFail → Type 0
Plans wanted (Ok plan) = wanted ≡ Some plan
Plans wanted (Err Usage) = wanted ≡ None
Plans wanted (Err Memory) = Unit {0}
