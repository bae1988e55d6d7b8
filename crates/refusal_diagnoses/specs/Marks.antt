-- What is marked of a source that np refuses (docs/PICTURES.md, "Refusals").
use Rattle.std.specs.Prelude.{ℕ, ◌<◌, List, length, Option, IsSomeAnd}
use Rattle.np_verdict.specs.declared.refusal.Refusal.{Refusal}
use Rattle.refusal_diagnoses.specs.declared.spot.Spot.{Spot}
use Rattle.refusal_diagnoses.specs.declared.spot.Spot.TheVariants as spots
use Rattle.refusal_diagnoses.specs.Diagnoses.{spot_of}
use Rattle.source_places.specs.declared.reasons.Mark.{Mark}
use Rattle.source_places.specs.declared.reasons.Reasons.{Reasons}
use Rattle.source_places.specs.Holds.{Holds}

-- the offset of a spot, or the end of the text
abbrev pub offset_at : Spot → ℕ → ℕ
offset_at (spots.Offset at) len = at
offset_at _ len = len

-- something is marked as refused, and its range holds an offset that is not at the end
abbrev pub MarksAt : Option Mark → ℕ → ℕ → Type 0
MarksAt mark at len = at < len → IsSomeAnd mark (λ mark. Holds mark at)

-- where np has an offset, something is marked as refused, and its range holds that offset, but at the end of the source
abbrev pub MarksIn : List ℕ → Refusal → Reasons → Type 0
MarksIn bytes refusal reasons = MarksAt reasons.refused (offset_at (spot_of refusal) (length bytes)) (length bytes)
