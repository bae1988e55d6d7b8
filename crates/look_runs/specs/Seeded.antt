-- What a run by seed is, and what is written of it (docs/SCHEDULES.md, "What is proved").
use Rattle.std.specs.Prelude.{◌≡◌, ℕ, List}
use Rattle.np_syntax.specs.declared.program.LowProgram.{LowProgram}
use Rattle.np_syntax.specs.declared.program.Program.{Program}
use Rattle.np_calculus.specs.Starts.{start_high, start_low}
use Rattle.np_serial.specs.Serial.{IsSerialRun}
use Rattle.np_serial.specs.declared.serial.SerialRun.{SerialRun}
use Rattle.np_verdict.specs.Report.{report_text}
use Rattle.np_on_sites.specs.ByInfrastructure.{low_by}
use Rattle.np_on_sites.specs.SourceRuns.{IsRunOfSource}
use Rattle.run_save.specs.Ours.{IsOurs}
use Rattle.run_choices.specs.InTurn.{IsDrawn}
use Rattle.run_choices.specs.Runs.{AreChosen}
use Rattle.look_sources.specs.declared.shown.Shown.{Shown}
use Rattle.look_words.specs.declared.run_words.Way.{Way}
use Rattle.look_words.specs.declared.words.Level.{Level}
use Rattle.look_words.specs.declared.words.Level.TheVariants as levels

-- a run of the source itself, in which the draws of the seed choose each event among all that is enabled
pub record IsHighRun (p : Program) (way : Way) (run : SerialRun) : Type 0 where
  pub goes : IsSerialRun (start_high p) way.budget run.events run.last run.end
  pub drawn : AreChosen (start_high p) way.seed run.events

-- A run of the low program of the source, which its sites could make by themselves, and in which the draws of the seed choose each
-- event among all that they can make. All that is promised of a run on sites holds of it: what is read off it is a run of the source.
pub record IsLowRun (p : Program) (way : Way) (run : SerialRun) : Type 0 where
  pub low : LowProgram
  pub translated : low ≡ low_by way.infrastructure p
  pub goes : IsSerialRun (start_low low) way.budget run.events run.last run.end
  pub ours : IsOurs low run.events
  pub drawn : IsDrawn (start_low low) way.seed run.events
  pub source : IsRunOfSource way.infrastructure p low run.events run.last.said run.end

-- a run by a way
abbrev pub IsRunAt : Level → Program → Way → SerialRun → Type 0
IsRunAt levels.High p way run = IsHighRun p way run
IsRunAt levels.Low p way run = IsLowRun p way run

abbrev pub IsRun : Program → Way → SerialRun → Type 0
IsRun p way run = IsRunAt way.level p way run

-- what is shown is the report of such a run
pub record IsReport (p : Program) (way : Way) (shown : Shown) : Type 0 where
  pub run : SerialRun
  pub goes : IsRun p way run
  pub ends : shown.end ≡ run.end
  pub between : List ℕ
  pub text : shown.text ≡ report_text p.sites run.last.said between run.end

-- and so it is of some source
pub record IsRunShown (way : Way) (shown : Shown) : Type 0 where
  pub p : Program
  pub report : IsReport p way shown
