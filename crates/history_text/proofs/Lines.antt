-- The lines of a text, one after the other.
use Rattle.std.proofs.lemmas.List.{take_all}
use Rattle.std.proofs.Common.{◌≡◌, ℕ, ◌+◌, ◌-◌, ◌<◌, List, [], ◌∷◌, take, drop, length, length-drop, refl, ap, ◌∙◌, arith}
use Rattle.std.specs.Prelude.{Bool, true, false, ◌==◌}
use Rattle.std.specs.List.{onto_first, prefix_len}
use Rattle.std.proofs.Math.Numerals.{one-add}
use Rattle.history_text.specs.Histories.{lines}
use Rattle.history_text.specs.Reading.{in_line}

-- ---- the line at the front

one_more : (n byte : ℕ) (bytes : List ℕ) → (byte ∷ take n bytes) ∷ lines (drop 1 (drop n bytes)) ≡ take (1 + n) (byte ∷ bytes) ∷ lines (drop 1 (drop (1 + n) (byte ∷ bytes)))
one_more n byte bytes = rw one-add refl

-- the lines are the one at the front and those behind its line feed
abbrev IsCut : List ℕ → Type 0
IsCut bytes = lines bytes ≡ take (prefix_len in_line bytes) bytes ∷ lines (drop 1 (drop (prefix_len in_line bytes) bytes))

front_line : (byte : ℕ) (bytes : List ℕ) → IsCut (byte ∷ bytes)
front_line byte [] = go (byte == 10) refl
  where
    go : (b : Bool) → (byte == 10) ≡ b → IsCut (byte ∷ [])
    go true is = rw is refl
    go false is = rw is refl
front_line byte (next ∷ bytes) = go (byte == 10) refl (front_line next bytes)
  where
    go : (b : Bool) → (byte == 10) ≡ b → IsCut (next ∷ bytes) → IsCut (byte ∷ next ∷ bytes)
    go true is later = rw is refl
    go false is later = rw is (ap (onto_first byte) later ∙ one_more (prefix_len in_line (next ∷ bytes)) byte (next ∷ bytes))

cut_at : (bytes : List ℕ) → 0 < length bytes → IsCut bytes
cut_at [] some = absurd (omega arith)
cut_at (byte ∷ bytes) some = front_line byte bytes

pub cut_is : (bytes line rest : List ℕ) (n : ℕ) → 0 < length bytes → n ≡ prefix_len in_line bytes → line ≡ take n bytes → rest ≡ drop n bytes
    → lines bytes ≡ line ∷ lines (drop 1 rest)
cut_is bytes line rest n some len front back = cut_at bytes some ∙ rw (front, back, len) refl

pub no_rest : (rest : List ℕ) → length rest < 1 → drop 1 rest ≡ rest
no_rest [] none = refl
no_rest (byte ∷ rest) none = absurd (omega arith)

pub all_rest : (rest : List ℕ) → take (length rest - 1) (drop 1 rest) ≡ drop 1 rest
all_rest rest = take_all (length rest - 1) (drop 1 rest) (omega (arith, length-drop 1 rest))
