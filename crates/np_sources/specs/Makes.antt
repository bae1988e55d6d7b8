-- What a mode makes of the bytes of a source (docs/COMMANDS.md, "Reports and refusals").
use Rattle.std.specs.Prelude.{◌≡◌, ℕ, ◌*◌, ◌≤◌, Bool, true, false, List, [], length, codes, Option, Some, None, IsSome}
use Rattle.np_syntax.specs.declared.event.End.{End}
use Rattle.np_syntax.specs.declared.event.Event.{Event}
use Rattle.np_syntax.specs.declared.program.LowProgram.{LowProgram}
use Rattle.np_syntax.specs.declared.program.Program.{Program}
use Rattle.np_syntax.specs.declared.limits.TheConstants.{MOST_EVENTS}
use Rattle.np_tree.specs.declared.tree.Tree.{Tree}
use Rattle.np_show.specs.Shown.{shown as canonical}
use Rattle.np_low_text.specs.LowText.{low_text}
use Rattle.np_calculus.specs.Config.{Config}
use Rattle.np_calculus.specs.Reductions.{run}
use Rattle.np_calculus.specs.Starts.{start_high, start_low}
use Rattle.np_serial.specs.Serial.{IsSerialRun}
use Rattle.np_verdict.specs.Report.{report_text}
use Rattle.np_verdict.specs.Faults.{HasTree, IsWellTyped}
use Rattle.np_words.specs.declared.planning.Task.{Task}
use Rattle.np_words.specs.declared.planning.Task.TheVariants as task
use Rattle.np_generate.specs.Generated.{generated}
use Rattle.run_merge.specs.Merged.{past}
use Rattle.np_words.specs.declared.modes.Infrastructure.{Infrastructure}
use Rattle.np_words.specs.declared.modes.HighText.{HighText}
use Rattle.np_words.specs.declared.modes.HighText.TheVariants.{Absent, TwoSteps}
use Rattle.run_save.specs.following.Following.{IsResumed}
use Rattle.np_on_sites.specs.ByInfrastructure.{lift_by}
use Rattle.np_on_sites.specs.SitesRuns.{IsSitesRun}
use Rattle.np_on_sites.specs.declared.record.Record.{Record}
use Rattle.np_sources.specs.declared.job.MadeRun.{MadeRun}
use Rattle.np_sources.specs.declared.limits.TheConstants.{LOAD_BUDGET}
use Rattle.np_sources.specs.declared.sites.Shown.{Shown}
use Rattle.np_sources.specs.declared.sites.Shown.TheVariants as shown
use Rattle.np_sources.specs.Kept.{IsShownSo, KeepsPromises, high_part, load_report, merged, run_report}
use Rattle.np_sources.specs.Reaches.{CanGoOn, IsCompiled, IsFree, IsLowOf}

-- ---- runs

-- the run is one of the program from its start
abbrev pub HasRun : Program → List Event → Config → Type 0
HasRun p events last = run (start_high p) events ≡ Some last

-- the text is the report of a run of the program, which can be shown so
pub record IsReportOf (high : HighText) (p : Program) (events : List Event) (last : Config) (end : End) (text : List ℕ) : Type 0 where
  pub report : text ≡ report_text p.sites last.said (high_part high (start_high p) events) end
  pub shown : IsShownSo high p events

-- the program was run within the budget, and the text is the report
pub record IsRunOf (budget : ℕ) (high : HighText) (p : Program) (made : MadeRun) (text : List ℕ) : Type 0 where
  pub last : Config
  pub run : IsSerialRun (start_high p) budget made.events last made.end
  pub report : IsReportOf high p made.events last made.end text

-- the source is accepted, and its program was run
pub record Runs (budget : ℕ) (high : HighText) (bytes : List ℕ) (made : MadeRun) (text : List ℕ) : Type 0 where
  pub program : Program
  pub accepted : IsWellTyped bytes program
  pub free : IsFree high bytes
  pub run : IsRunOf budget high program made text

-- the low program was run within the budget, and the text is the report
pub record IsLowRunOf (budget : ℕ) (low : LowProgram) (made : MadeRun) (text : List ℕ) : Type 0 where
  pub last : Config
  pub run : IsSerialRun (start_low low) budget made.events last made.end
  pub report : text ≡ report_text low.sites last.said [] made.end

-- the source has this low program, which was run
pub record RunsLow (infrastructure : Infrastructure) (budget : ℕ) (bytes : List ℕ) (made : MadeRun) (text : List ℕ) : Type 0 where
  pub low : LowProgram
  pub lowered : IsLowOf infrastructure bytes low
  pub run : IsLowRunOf budget low made text

-- ---- modes

-- the program has this low program, which was run on its sites, and this was kept
pub record RunsOnSites (infrastructure : Infrastructure) (budget : ℕ) (p : Program) (low : LowProgram) (kept : Record) : Type 0 where
  pub compiled : IsCompiled infrastructure p low
  pub few : length low.sites * budget ≤ MOST_EVENTS
  pub ran : IsSitesRun low budget (past kept.histories) kept.end

-- the report of what was kept, and the high text that it has
abbrev pub report_of : Infrastructure → Shown → Program → Record → List ℕ
report_of infrastructure (shown.Printed history high) = run_report infrastructure history high
report_of infrastructure (shown.Counted agents) = load_report agents

-- the high text, where it is asked for, of migration in two steps
abbrev pub in_two_steps : Bool → HighText
in_two_steps true = TwoSteps
in_two_steps false = Absent

abbrev pub high_of : Shown → HighText
high_of (shown.Printed history high) = high
high_of (shown.Counted agents) = Absent

-- the run of a program on its sites, with its report, is kept, and nothing else
pub record KeepsRun (infrastructure : Infrastructure) (budget : ℕ) (how : Shown) (p : Program) (kept : Option Record)
    (high : Option MadeRun) (text : List ℕ) : Type 0 where
  pub low : LowProgram
  pub made : Record
  pub ran : RunsOnSites infrastructure budget p low made
  pub written : text ≡ report_of infrastructure how p made
  pub stepped : IsShownSo (high_of how) p (lift_by infrastructure (merged made))
  pub is_kept : kept ≡ Some made
  pub is_high : high ≡ None

-- what a run on sites makes is kept, and nothing else
pub record KeepsSites (infrastructure : Infrastructure) (budget : ℕ) (how : Shown) (bytes : List ℕ) (kept : Option Record)
    (high : Option MadeRun) (text : List ℕ) : Type 0 where
  pub made : Record
  pub promises : KeepsPromises infrastructure budget (report_of infrastructure how) bytes made text
  pub free : IsFree (high_of how) bytes
  pub shown : IsShownSo (high_of how) promises.lowered.program (lift_by infrastructure (merged made))
  pub is_kept : kept ≡ Some made
  pub is_high : high ≡ None

-- So it is with a run that goes on from these events, which are one of the low program, and which its sites can go on from: the merged
-- histories begin with them, and what comes behind them is stamped later.
pub record KeepsResumed (infrastructure : Infrastructure) (budget : ℕ) (how : Shown) (bytes : List ℕ) (events : List Event)
    (kept : Option Record) (high : Option MadeRun) (text : List ℕ) : Type 0 where
  pub keeps : KeepsSites infrastructure budget how bytes kept high text
  pub run : IsSome (run (start_low keeps.promises.low) events)
  pub can : CanGoOn budget keeps.promises.low events
  pub resumed : IsResumed events (past keeps.made.histories)

-- the run is kept whole, and nothing else
pub record KeepsHigh (budget : ℕ) (shown : HighText) (bytes : List ℕ) (kept : Option Record) (high : Option MadeRun)
    (text : List ℕ) : Type 0 where
  pub made : MadeRun
  pub runs : Runs budget shown bytes made text
  pub is_kept : kept ≡ None
  pub is_high : high ≡ Some made

-- the source has a tree, and this is its canonical text
pub record Shows (bytes : List ℕ) (kept : Option Record) (high : Option MadeRun) (text : List ℕ) : Type 0 where
  pub tree : Tree
  pub accepted : HasTree bytes tree
  pub shows : text ≡ canonical tree
  pub is_kept : kept ≡ None
  pub is_high : high ≡ None

-- the source is well typed, and the text says so
pub record Checks (bytes : List ℕ) (kept : Option Record) (high : Option MadeRun) (text : List ℕ) : Type 0 where
  pub program : Program
  pub accepted : IsWellTyped bytes program
  pub says : text ≡ codes "well typed\n"
  pub is_kept : kept ≡ None
  pub is_high : high ≡ None

-- the source has a low program, and this is its low text
pub record Lowers (infrastructure : Infrastructure) (bytes : List ℕ) (kept : Option Record) (high : Option MadeRun)
    (text : List ℕ) : Type 0 where
  pub low : LowProgram
  pub lowered : IsLowOf infrastructure bytes low
  pub lowers : text ≡ low_text low
  pub is_kept : kept ≡ None
  pub is_high : high ≡ None

-- what is made of a source: a run, which is kept, the canonical text, that it is well typed, or the low text
abbrev pub DoesTask : Task → List ℕ → Option Record → Option MadeRun → List ℕ → Type 0
DoesTask (task.Run budget history high serial links infrastructure) bytes kept made text =
    KeepsSites infrastructure budget (shown.Printed history high) bytes kept made text
DoesTask (task.High budget history) bytes kept made text = KeepsHigh budget history bytes kept made text
DoesTask task.Show bytes kept made text = Shows bytes kept made text
DoesTask task.Check bytes kept made text = Checks bytes kept made text
DoesTask (task.Low infrastructure) bytes kept made text = Lowers infrastructure bytes kept made text

-- the generated source of so many agents was run
abbrev pub DoesLoad : Infrastructure → ℕ → Option Record → Option MadeRun → List ℕ → Type 0
DoesLoad infrastructure agents kept made text = KeepsSites infrastructure LOAD_BUDGET (shown.Counted agents)
    (generated agents) kept made text
