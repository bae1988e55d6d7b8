-- Counts of faults, and what a fault says of them.
use Rattle.std.specs.Prelude.{◌≡◌, ℕ, ◌+◌, ◌-◌, ◌^◌, ◌≤◌, min, List, Option, Some, None, OnErr, Result}

-- the count rose, or stands at the greatest `u64`
abbrev pub Rose : ℕ → ℕ → Type 0
Rose before now = min (before + 1) (2 ^ 64 - 1) ≤ now

-- a count for each name
abbrev pub Counts : Type 0
Counts = List ℕ → ℕ

-- no count has fallen
pub record NoneFell (before now : Counts) : Type 0 where
  pub each : (name : List ℕ) → before name ≤ now name

-- the name that is told, if one is, is this name
abbrev pub MayBe : Option (List ℕ) → List ℕ → Type 0
MayBe None name = Unit {0}
MayBe (Some told) name = told ≡ name

-- an error comes only where the count rose of the name that is told, or of every name where none is
pub record HasCauseAt {T E : Type 0} (told : Option (List ℕ)) (before now : Counts) (result : Result T E) : Type 0 where
  pub each : (name : List ℕ) → MayBe told name → OnErr result (Rose (before name) (now name))
