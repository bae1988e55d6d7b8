-- What is marked of a refusal that has a place (docs/PICTURES.md, "Refusals").
use Rattle.std.specs.Prelude.{ℕ, IsSomeAnd}
use Rattle.source_places.specs.Holds.{Holds}
use Rattle.source_places.specs.declared.reasons.Reasons.{Reasons}

-- something is marked as refused, and its range holds this offset
abbrev pub MarksAt : ℕ → Reasons → Type 0
MarksAt at reasons = IsSomeAnd reasons.refused (λ mark. Holds mark at)
