-- What is told of the bytes of texts and of sinks.
use Rattle.std.specs.Prelude.{◌≡◌, ℕ, ◌≤◌, List, length, take, Option, Some, None}
use Rattle.std.specs.Io.KnownBytes.{Appends}

-- the bytes told under each name, or none
abbrev pub Held : Type 0
Held = List ℕ → Option (List ℕ)

-- what is held stays as it was
pub record StayHeld (before now : Held) : Type 0 where
  pub each : (name : List ℕ) → now name ≡ before name

-- where the text is told, all of it is left
abbrev pub Starts : Option (List ℕ) → Option (List ℕ) → Type 0
Starts None left = Unit {0}
Starts (Some text) left = left ≡ Some text

-- a prefix of the bytes was appended, where that is told
abbrev pub AppendsPrefix : Option (List ℕ) → Option (List ℕ) → List ℕ → Type 0
AppendsPrefix before now bytes = (n : ℕ) × (n ≤ length bytes) × Appends before now (take n bytes)
