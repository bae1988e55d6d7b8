-- What is told of a source (docs/PICTURES.md, "Refusals").
use Rattle.std.specs.Prelude.{◌≡◌, ◌⊎◌, ℕ, List, []}
use Rattle.np_syntax.specs.declared.program.Program.{Program}
use Rattle.np_verdict.specs.Faults.{Faulty, IsWellTyped, Stage}
use Rattle.np_verdict.specs.Lines.{status_of}
use Rattle.np_verdict.specs.declared.refusal.Refusal.{Refusal}
use Rattle.np_verdict.specs.declared.statuses.TheConstants.{DONE}
use Rattle.refusal_diagnoses.specs.declared.judging.Told.{Told}
use Rattle.refusal_diagnoses.specs.Diagnoses.{IsDiagnosis}

-- a refusal is told where it is, and the status is np's
pub record IsRefused (file bytes : List ℕ) (refusal : Refusal) (told : Told) : Type 0 where
  pub text : IsDiagnosis file bytes refusal told.text
  pub status : told.status ≡ status_of refusal

-- np accepts the source, and nothing is told
pub record IsAccepted (bytes : List ℕ) (told : Told) : Type 0 where
  pub program : Program
  pub accepted : IsWellTyped bytes program
  pub text : told.text ≡ []
  pub status : told.status ≡ DONE

-- np refuses the source, and just this refusal is told
pub record IsFaulty (file bytes : List ℕ) (told : Told) : Type 0 where
  pub refusal : Refusal
  pub faulty : Faulty Stage.program bytes refusal
  pub refused : IsRefused file bytes refusal told

abbrev pub IsJudged : List ℕ → List ℕ → Told → Type 0
IsJudged file bytes told = IsAccepted bytes told ⊎ IsFaulty file bytes told
