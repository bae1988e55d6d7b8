-- The headline: what is promised of each run on sites that the program keeps, whichever the infrastructure (docs/THEOREM.md).
use Rattle.std.specs.Prelude.{◌≡◌, ℕ, Bool, List, Some}
use Rattle.np_syntax.specs.declared.event.End.TheVariants.{Rest}
use Rattle.np_syntax.specs.declared.limits.TheConstants.{LONGEST_SOURCE}
use Rattle.np_syntax.specs.declared.program.LowProgram.{LowProgram}
use Rattle.np_syntax.specs.declared.program.Program.{Program}
use Rattle.np_calculus.specs.Config.{Config}
use Rattle.np_calculus.specs.Idle.{Idle}
use Rattle.np_calculus.specs.Reductions.{run}
use Rattle.np_calculus.specs.Starts.{start_high, start_low}
use Rattle.np_calculus.specs.Well.{WellAlong}
use Rattle.np_generate.specs.Generated.{generated}
use Rattle.run_merge.specs.Merged.{past}
use Rattle.run_merge.specs.Stamps.{AreStamped}
use Rattle.np_words.specs.Plans.{plan}
use Rattle.np_words.specs.declared.modes.Infrastructure.{Infrastructure}
use Rattle.np_words.specs.declared.modes.HighText.{HighText}
use Rattle.np_words.specs.declared.modes.Links.{Links}
use Rattle.np_words.specs.declared.planning.Plan.TheVariants as plans
use Rattle.np_words.specs.declared.planning.Task.TheVariants as task
use Rattle.np_on_sites.specs.ByInfrastructure.{ArePlacedBy, IsAllHandedBy, IsPairedBy, lift_by}
use Rattle.np_on_sites.specs.declared.record.Record.{Record}
use Rattle.np_sources.specs.Kept.{load_report, merged, run_report, said}
use Rattle.np_sources.specs.Makes.{in_two_steps}
use Rattle.np_sources.specs.Reaches.{IsLowOf}
use Rattle.np_sources.specs.declared.limits.TheConstants.{LOAD_BUDGET}
use Rattle.np_modes.specs.Readings.{Reading, IsRead, IsText}

-- The words ask for a run of a source of these bytes with this infrastructure, in which each site makes at most so many events, and for
-- this report: `run` of a file, `resume` of a file and a history, or `load` of a generated source. Whether sites take turns or have
-- threads, and what carries items between them, is free.
pub data AsksForRun (words : List (List ℕ)) (texts : Reading) : Infrastructure → ℕ → (Program → Record → List ℕ) → List ℕ → Type 0 where
  file : (name bytes : List ℕ) (budget : ℕ) (history : Bool) (high : HighText) (serial : Bool) (links : Links)
      (infrastructure : Infrastructure)
      → plan words ≡ Some (plans.Source name (task.Run budget history high serial links infrastructure))
      → IsRead texts name LONGEST_SOURCE bytes
      → AsksForRun words texts infrastructure budget (run_report infrastructure history high) bytes
  resumed : (name saved bytes : List ℕ) (budget : ℕ) (history high serial : Bool) (links : Links) (infrastructure : Infrastructure)
      → plan words ≡ Some (plans.Resume name saved budget history high serial links infrastructure) → IsText texts name LONGEST_SOURCE bytes
      → AsksForRun words texts infrastructure budget (run_report infrastructure history (in_two_steps high)) bytes
  loaded : (agents : ℕ) (serial : Bool) (links : Links) (infrastructure : Infrastructure)
      → plan words ≡ Some (plans.Load agents serial links infrastructure)
      → AsksForRun words texts infrastructure LOAD_BUDGET (load_report agents) (generated agents)

-- Of such a call, where this is kept of the run of the source of these bytes, and this text is made. What stands here stands for a
-- daemon alone, and for a daemon beside which agents have caches and messengers go: only the compiled program is another, and the list
-- that is read off a run.
pub record Headline (words : List (List ℕ)) (texts : Reading) (bytes : List ℕ) (kept : Record) (text : List ℕ) : Type 0 where
  pub infrastructure : Infrastructure
  pub budget : ℕ
  pub report : Program → Record → List ℕ
  pub asks : AsksForRun words texts infrastructure budget report bytes
  -- the source is accepted, and this is its compiled program
  pub low : LowProgram
  pub lowered : IsLowOf infrastructure bytes low
  -- the histories of the sites, in the order of their stamps, are a run of the compiled program in the low-level calculus
  pub last : Config
  pub runs : run (start_low low) (merged kept) ≡ Some last
  -- each has the events of its own site alone, within the budget, and the stamps are by Lamport's rule
  pub stamped : AreStamped low budget (past kept.histories)
  -- in which no value of a wrong type is met
  pub well : WellAlong (start_low low) (merged kept)
  -- what is printed is what the source prints along the high-level run that is read off it
  pub high : Config
  pub read_off : run (start_high lowered.program) (lift_by infrastructure (merged kept)) ≡ Some high
  pub printed : high.said ≡ said kept
  pub written : text ≡ report lowered.program kept
  -- every location-independent message was handed over once at most, and as it was sent; the letter of one that was not, as where the
  -- budget cut the run, is in its one place
  pub paired : IsPairedBy infrastructure (start_low low) (merged kept)
  pub placed : ArePlacedBy infrastructure (start_low low) (merged kept)
  -- at rest that run has ended, and every location-independent message was handed over exactly once, be it by the daemon or by a messenger
  pub ended : kept.end ≡ Rest → Idle high
  pub handed : kept.end ≡ Rest → IsAllHandedBy infrastructure (start_low low) (merged kept)
