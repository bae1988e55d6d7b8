-- The escapes of strings, in a source and where they are printed (docs/LANGUAGE.md, "Tokens" and "Printed values").
use Rattle.std.specs.Prelude.{◌≡◌, ℕ, ◌⊎◌, List, [], ◌∷◌}

-- a byte that is written behind a backslash, and the byte that stands there for it: `\n`, `\"` and `\\`
abbrev pub escapes : List (ℕ × ℕ)
escapes = (10, 110) ∷ (34, 34) ∷ (92, 92) ∷ []

abbrev pub IsEscapeIn : List (ℕ × ℕ) → ℕ → ℕ → Type 0
IsEscapeIn [] byte letter = ⊥
IsEscapeIn (escape ∷ others) byte letter = ((byte ≡ escape.0) × (letter ≡ escape.1)) ⊎ IsEscapeIn others byte letter

-- this letter stands behind a backslash for this byte
abbrev pub IsEscape : ℕ → ℕ → Type 0
IsEscape = IsEscapeIn escapes
