-- What is told where the tokens of a source are no program's (docs/PICTURES.md, "Refusals").
use Rattle.std.specs.Prelude.{ℕ, ◌<◌, List, length, Option, IsSomeAnd}
use Rattle.source_places.specs.Holds.{Holds}
use Rattle.source_places.specs.declared.reasons.Mark.{Mark}

-- what is marked as refused holds this offset, but at the end of the source
abbrev pub MarksIn : List ℕ → ℕ → Option Mark → Type 0
MarksIn bytes at mark = at < length bytes → IsSomeAnd mark (λ mark. Holds mark at)
