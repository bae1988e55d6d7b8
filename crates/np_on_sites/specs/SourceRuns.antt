-- What a run of a compiled program on its sites is of the source (docs/TRANSLATION.md, "Translation and daemon").
use Rattle.std.specs.Prelude.{◌≡◌, ℕ, List, Some}
use Rattle.np_syntax.specs.declared.event.End.{End}
use Rattle.np_syntax.specs.declared.event.End.TheVariants.{Rest}
use Rattle.np_syntax.specs.declared.event.Event.{Event}
use Rattle.np_syntax.specs.declared.program.LowProgram.{LowProgram}
use Rattle.np_syntax.specs.declared.program.Program.{Program}
use Rattle.np_syntax.specs.declared.value.Value.{Value}
use Rattle.np_calculus.specs.Config.{Config}
use Rattle.np_calculus.specs.Idle.{Idle}
use Rattle.np_calculus.specs.Reductions.{run}
use Rattle.np_calculus.specs.Starts.{start_high, start_low}
use Rattle.np_calculus.specs.Well.{WellAlong}
use Rattle.np_check.specs.Faults.{IsAccepted}
use Rattle.simulate_laws.specs.simulation.FreeLocks.{HasFreeLocks}
use Rattle.stamp_history.specs.Histories.{Recorded}
use Rattle.run_merge.specs.Merged.{said}
use Rattle.np_words.specs.declared.modes.Infrastructure.{Infrastructure}
use Rattle.np_on_sites.specs.ByInfrastructure.{ArePlacedBy, IsAllHandedBy, IsPairedBy, lift_by, low_by}
use Rattle.np_on_sites.specs.SitesRuns.{IsSitesRun, events_of}

-- the events are a run of the low program, in which that was printed, and which has ended at rest only where no site can act any more
pub record IsLowRun (low : LowProgram) (events : List Event) (printed : List (ℕ × Value)) (end : End) : Type 0 where
  pub last : Config
  pub reaches : run (start_low low) events ≡ Some last
  pub said : last.said ≡ printed
  pub rests : end ≡ Rest → Idle last

-- The events, along which no value of a wrong type is met, and the run of the source that is read off them: it prints the same.
-- Each message to an agent wherever it is was handed over once at most, or its letter is in its one place. Where the low level is at
-- rest that run has ended, each was handed over, and the locks of the daemon are free.
pub record IsRunOfSource (infrastructure : Infrastructure) (p : Program) (low : LowProgram) (events : List Event)
    (printed : List (ℕ × Value)) (end : End) : Type 0 where
  pub well : WellAlong (start_low low) events
  pub high : Config
  pub lifted : run (start_high p) (lift_by infrastructure events) ≡ Some high
  pub said : high.said ≡ printed
  pub paired : IsPairedBy infrastructure (start_low low) events
  pub placed : ArePlacedBy infrastructure (start_low low) events
  pub rests : end ≡ Rest → Idle high
  pub handed : end ≡ Rest → IsAllHandedBy infrastructure (start_low low) events
  pub locks : end ≡ Rest → (last : Config) → run (start_low low) events ≡ Some last → HasFreeLocks last high

-- the same of the merged histories of the sites
abbrev pub IsSourceRun : Infrastructure → Program → LowProgram → List Recorded → End → Type 0
IsSourceRun infrastructure p low histories end = IsRunOfSource infrastructure p low (events_of histories) (said histories) end

-- each run of the low program of an accepted source, whichever the infrastructure
abbrev pub RunsAreSourceRuns : Type 0
RunsAreSourceRuns = (infrastructure : Infrastructure) (p : Program) (low : LowProgram) (events : List Event)
    (printed : List (ℕ × Value)) (end : End) → IsAccepted p
    → low ≡ low_by infrastructure p → IsLowRun low events printed end → IsRunOfSource infrastructure p low events printed end

-- and so each on sites
abbrev pub SitesRunsAreSourceRuns : Type 0
SitesRunsAreSourceRuns = (infrastructure : Infrastructure) (p : Program) (low : LowProgram) (budget : ℕ) (histories : List Recorded)
    (end : End) → IsAccepted p
    → low ≡ low_by infrastructure p → IsSitesRun low budget histories end → IsSourceRun infrastructure p low histories end
