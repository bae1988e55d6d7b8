-- What is written of bytes is tame.
use Rattle.std.proofs.Common.{◌≡◌, ℕ, ◌+◌, ◌-◌, ◌/◌, ◌%◌, ◌≤◌, ◌<◌, Bool, true, false, List, [], ◌∷◌, ◌++◌, refl, ap, arith, ◌∙◌}
use Rattle.std.specs.Prelude.{codes, nat_eq, nat_le, nat_lt, not, ◌&&◌, if◌then◌else◌}
use Rattle.std.specs.List.{list_all, AllByRecursion}
use Rattle.std.proofs.lemmas.Bool.Decides.{nat_tests}
use Rattle.markup_text.specs.Escapes.{escaped, escaped_byte, hex_digit, is_tame, numbered, plain_byte}

both : (xs ys : List ℕ) → list_all is_tame xs ≡ true → list_all is_tame ys ≡ true → list_all is_tame (xs ++ ys) ≡ true
both [] ys h k = k
both (x ∷ xs) ys h k = on (is_tame x) h (λ rest. both xs ys rest k)
  where
    on : (t : Bool) → (t && list_all is_tame xs) ≡ true → (list_all is_tame xs ≡ true → list_all is_tame (xs ++ ys) ≡ true) → (t && list_all is_tame (xs ++ ys)) ≡ true
    on true h more = more h
    on false h more = absurd cc

by : (t : Bool) (xs ys : List ℕ) → list_all is_tame xs ≡ true → (t ≡ false → list_all is_tame ys ≡ true) → list_all is_tame (if t then xs else ys) ≡ true
by true xs ys h k = h
by false xs ys h k = k refl

number-tame : (m : ℕ) → 40 ≤ m → m ≤ 126 → (m ≡ 60 → ⊥) → (m ≡ 62 → ⊥) → is_tame m ≡ true
number-tame m a b c d = grind (arith, nat_tests)

hex-tame : (n : ℕ) → n < 16 → is_tame (hex_digit n) ≡ true
hex-tame n h = on (nat_lt n 10) refl
  where
    on : (t : Bool) → nat_lt n 10 ≡ t → is_tame (if t then 48 + n else 97 + (n - 10)) ≡ true
    on true e = let less : n < 10 = grind (arith, nat_tests) in number-tame (48 + n) (omega arith) (omega arith) (λ e. omega arith) (λ e. omega arith)
    on false e = let more : 10 ≤ n = grind (arith, nat_tests) in number-tame (97 + (n - 10)) (omega arith) (omega arith) (λ e. omega arith) (λ e. omega arith)

numbered-tame : (b : ℕ) → b < 256 → list_all is_tame (numbered b) ≡ true
numbered-tame b h = two (is_tame (hex_digit (b / 16))) (is_tame (hex_digit (b % 16))) (hex-tame (b / 16) (omega arith)) (hex-tame (b % 16) (omega arith))
  where
    two : (s t : Bool) → s ≡ true → t ≡ true → (s && (t && true)) ≡ true
    two s t p q = rw (p, q) refl

itself : (a b c d e f : Bool) → (a && b) ≡ true → c ≡ false → d ≡ false → e ≡ false → f ≡ false → ((a && (b && (not c && (not d && (not e && not f))))) && true) ≡ true
itself true true c d e f h p q r s = rw (p, q, r, s) refl
itself true false c d e f h p q r s = absurd cc
itself false b c d e f h p q r s = absurd cc

plain-tame : (b : ℕ) → b < 256 → nat_eq b 60 ≡ false → nat_eq b 62 ≡ false → nat_eq b 34 ≡ false → nat_eq b 39 ≡ false → list_all is_tame (plain_byte b) ≡ true
plain-tame b h p q r s = on (nat_le 32 b && nat_le b 126) refl
  where
    on : (t : Bool) → (nat_le 32 b && nat_le b 126) ≡ t → list_all is_tame (if t then b ∷ [] else numbered b) ≡ true
    on true e = itself (nat_le 32 b) (nat_le b 126) (nat_eq b 60) (nat_eq b 62) (nat_eq b 34) (nat_eq b 39) e p q r s
    on false e = numbered-tame b h

byte-tame : (b : ℕ) → b < 256 → list_all is_tame (escaped_byte b) ≡ true
byte-tame b h =
    by (nat_eq b 38) _ _ refl (λ _. by (nat_eq b 60) _ _ refl (λ p. by (nat_eq b 62) _ _ refl (λ q. by (nat_eq b 34) _ _ refl (λ r. by (nat_eq b 39) _ _ refl (λ s. plain-tame b h p q r s)))))

pub stays-tame : (bytes : List ℕ) → AllByRecursion (λ b. b < 256) bytes → list_all is_tame (escaped bytes) ≡ true
stays-tame [] h = refl
stays-tame (b ∷ bytes) h = both (escaped_byte b) (escaped bytes) (byte-tame b h.0) (stays-tame bytes h.1)
