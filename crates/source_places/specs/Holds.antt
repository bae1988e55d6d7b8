-- What is marked (docs/PICTURES.md, "Refusals").
use Rattle.std.specs.Prelude.{ℕ, ◌+◌, ◌≤◌, ◌<◌, ◌^◌}
use Rattle.source_places.specs.declared.reasons.Mark.{Mark}

-- an offset lies in the range that is marked
pub record Holds (mark : Mark) (at : ℕ) : Type 0 where
  pub begins : mark.range.from ≤ at
  pub ends : at + 1 < 2 ^ 64 → at < mark.range.to
