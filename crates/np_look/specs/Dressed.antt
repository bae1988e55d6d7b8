-- What is told, in colours (docs/PICTURES.md, "Refusals").
use Rattle.std.specs.Prelude.{◌≡◌, ◌⊎◌}
use Rattle.refusal_diagnoses.specs.declared.judging.Told.{Told}
use Rattle.text_colours.specs.Colours.{IsColoured}

-- the same is told: with its status, and as text or in colours
pub record IsDressed (dressed told : Told) : Type 0 where
  pub status : dressed.status ≡ told.status
  pub text : (dressed.text ≡ told.text) ⊎ IsColoured told.text dressed.text
