-- Which run is looked at (docs/PICTURES.md, "Pictures").
use Rattle.std.specs.Prelude.{◌≡◌, ℕ, List, Option, None, Some}
use Rattle.np_syntax.specs.declared.event.End.TheVariants.{Rest}
use Rattle.np_syntax.specs.declared.program.LowProgram.{LowProgram}
use Rattle.np_syntax.specs.declared.program.Program.{Program}
use Rattle.np_calculus.specs.Config.{Config}
use Rattle.np_calculus.specs.Starts.{start_low}
use Rattle.np_check.specs.Faults.{IsAccepted}
use Rattle.np_serial.specs.Serial.{IsSerialRun}
use Rattle.np_words.specs.declared.modes.Infrastructure.{Infrastructure}
use Rattle.np_on_sites.specs.ByInfrastructure.{low_by}
use Rattle.history_text.specs.declared.format.Format.{Format}
use Rattle.history_text.specs.Histories.{IsHistory}
use Rattle.run_choices.specs.InTurn.{IsDrawn}
use Rattle.look_sources.specs.declared.runs.Run.{Run}

-- the events are those of the text of a history
pub record IsOfHistory (run : Run) : Type 0 where
  pub bytes : List ℕ
  pub format : Format
  pub is : IsHistory bytes format run.events
  pub ends : run.end ≡ Rest

-- a history is there where one is named
abbrev pub IsFound : {A : Type 0} → Option A → Option Run → Type 0
IsFound None found = found ≡ None
IsFound (Some name) found = (run : Run) × (found ≡ Some run) × IsOfHistory run

-- a run of the low program from its start, within the budget; by a seed, where there is one, that draws each event
pub record IsMade (low : LowProgram) (budget : ℕ) (seed : Option ℕ) (run : Run) : Type 0 where
  pub last : Config
  pub goes : IsSerialRun (start_low low) budget run.events last run.end
  pub drawn : (n : ℕ) → seed ≡ Some n → IsDrawn (start_low low) n run.events

-- the run of the history, or else one that is made
abbrev pub IsLookedAt : Option Run → LowProgram → ℕ → Option ℕ → Run → Type 0
IsLookedAt (Some history) low budget seed run = run ≡ history
IsLookedAt None low budget seed run = IsMade low budget seed run

-- It is the run of the history that is named, or else a run of the low program of a source that np accepts.
pub record IsLooked {A : Type 0} (named : Option A) (infrastructure : Infrastructure) (budget : ℕ) (seed : Option ℕ)
    (run : Run) : Type 0 where
  pub p : Program
  pub accepted : IsAccepted p
  pub low : LowProgram
  pub translated : low ≡ low_by infrastructure p
  pub history : Option Run
  pub found : IsFound named history
  pub is : IsLookedAt history low budget seed run
