-- What is promised of a run on sites (docs/COMMANDS.md, "Reports and refusals"; docs/HISTORIES.md, "History text"): whatever the schedule,
-- the histories of the sites are one run of the compiled program, and what is read off it is a run of the source.
use Rattle.std.specs.Prelude.{◌≡◌, ℕ, ◌*◌, ◌≤◌, Bool, true, false, List, [], ◌++◌, length, Some}
use Rattle.np_syntax.specs.declared.event.End.TheVariants.{Rest}
use Rattle.np_syntax.specs.declared.event.Event.{Event}
use Rattle.np_syntax.specs.declared.program.LowProgram.{LowProgram}
use Rattle.np_syntax.specs.declared.program.Program.{Program}
use Rattle.np_syntax.specs.declared.value.Value.{Value}
use Rattle.np_syntax.specs.declared.limits.TheConstants.{MOST_EVENTS}
use Rattle.np_calculus.specs.Config.{Config}
use Rattle.np_calculus.specs.Idle.{Idle}
use Rattle.np_calculus.specs.Reductions.{run}
use Rattle.np_calculus.specs.Starts.{start_high, start_low}
use Rattle.np_calculus.specs.Well.{WellAlong}
use Rattle.history_text.specs.Spelling.{high_text, history_text}
use Rattle.run_views.specs.OneStep.{one_step}
use Rattle.run_views.specs.Stepped.{IsStepped}
use Rattle.run_merge.specs.Merged as histories
use Rattle.np_words.specs.Formats.{format_for}
use Rattle.np_words.specs.declared.modes.Infrastructure.{Infrastructure}
use Rattle.np_words.specs.declared.modes.HighText.{HighText}
use Rattle.np_words.specs.declared.modes.HighText.TheVariants.{Absent, TwoSteps, OneStep}
use Rattle.np_verdict.specs.Report.{load_text, report_text}
use Rattle.simulate_laws.specs.simulation.FreeLocks.{HasFreeLocks}
use Rattle.np_on_sites.specs.ByInfrastructure.{ArePlacedBy, IsAllHandedBy, IsPairedBy, lift_by}
use Rattle.np_on_sites.specs.SitesRuns.{IsSitesRun, events_of}
use Rattle.np_on_sites.specs.declared.record.Record.{Record}
use Rattle.np_sources.specs.Reaches.{IsLowOf}

-- all events of the sites, in the order of their stamps, and where these are equal of the sites
abbrev pub merged : Record → List Event
merged kept = events_of (histories.past kept.histories)

-- the values that the sites printed, in the same order
abbrev pub said : Record → List (ℕ × Value)
said kept = histories.said (histories.past kept.histories)

-- Of a source of these bytes and an infrastructure, where each site makes at most so many events; `report` makes a text of the program
-- and what is kept.
pub record KeepsPromises (infrastructure : Infrastructure) (budget : ℕ) (report : Program → Record → List ℕ) (bytes : List ℕ)
    (kept : Record) (text : List ℕ) : Type 0 where
  -- the source is accepted, and this is its low program
  pub low : LowProgram
  pub lowered : IsLowOf infrastructure bytes low
  -- its sites make few events together
  pub few : length low.sites * budget ≤ MOST_EVENTS
  -- the histories of its sites, each within the budget, are merged a run of it that printed what they have; it is at rest exactly where
  -- the record says so, and else only sites that have used their whole budget can act
  pub ran : IsSitesRun low budget (histories.past kept.histories) kept.end
  -- in which no value of a wrong type is met
  pub well : WellAlong (start_low low) (merged kept)
  -- the source has the run that is read off it, and prints the same
  pub high : Config
  pub lifted : run (start_high lowered.program) (lift_by infrastructure (merged kept)) ≡ Some high
  pub same : high.said ≡ said kept
  -- each message to an agent wherever it is was handed over at most once, and as it was sent
  pub paired : IsPairedBy infrastructure (start_low low) (merged kept)
  -- and one that was not is in its one place
  pub placed : ArePlacedBy infrastructure (start_low low) (merged kept)
  -- and where the record says that it is at rest, that run has ended, and each message was handed over
  pub ended : kept.end ≡ Rest → Idle high
  pub handed : kept.end ≡ Rest → IsAllHandedBy infrastructure (start_low low) (merged kept)
  -- and the daemon's lock is free, with the lock of each agent in its map
  pub locks : kept.end ≡ Rest → HasFreeLocks ran.last high
  -- the text is the report of it
  pub written : text ≡ report lowered.program kept

-- ---- reports

-- the history text, where it is asked for
abbrev pub history_part : Infrastructure → Bool → List Event → List ℕ
history_part infrastructure true events = history_text (format_for infrastructure) events
history_part infrastructure false events = []

-- the high text, where it is asked for, of a run from this start
abbrev pub high_part : HighText → Config → List Event → List ℕ
high_part Absent start events = []
high_part TwoSteps start events = high_text events
high_part OneStep start events = high_text (one_step start events)

abbrev pub run_report : Infrastructure → Bool → HighText → Program → Record → List ℕ
run_report infrastructure history high p kept =
    report_text p.sites (said kept)
    (history_part infrastructure history (merged kept) ++ high_part high (start_high p) (lift_by infrastructure (merged kept))) kept.end

abbrev pub load_report : ℕ → Program → Record → List ℕ
load_report agents p kept = load_text agents (said kept) kept.end

-- ---- migration in one step

-- what is shown with migration in one step is a run of the calculus where it is one step: it prints the same, and at its end everybody
-- has arrived
abbrev pub IsShownSo : HighText → Program → List Event → Type 0
IsShownSo OneStep p events = IsStepped p events (one_step (start_high p) events)
IsShownSo _ p events = Unit {0}
