-- A number's text, read from the front of bytes.
use Rattle.std.proofs.Common.{◌≡◌, ℕ, zero, suc, ◌+◌, ◌*◌, ◌-◌, ◌<◌, ◌^◌, List, [], ◌∷◌, ◌++◌, take, drop, get_or}
use Rattle.std.proofs.Common.{length, decimal, refl, sym, ap, ◌∙◌, None, Some, rules, arith}
use Rattle.std.specs.Prelude.{Bool, true, false, ◌==◌, fold, nat_le, cond}
use Rattle.std.specs.Char.{is_ascii_digit}
use Rattle.std.specs.List.{prefix_len, list_all}
use Rattle.std.proofs.lemmas.Bool.Decides.{nat_tests}
use Rattle.std.proofs.lemmas.List.{take-append-drop}
use Rattle.std.proofs.lemmas.Str.Parse.{IsNumeralModel, numerals_by_fold}
use Rattle.std.proofs.lemmas.Fmt.{decimal_digit, decimal_nonempty, first_decimal, digits_decimal, digits_value-decimal, decimal-digits_value}
use Rattle.std.proofs.Math.Numerals.{one-add}
use Rattle.std.proofs.Math.Seq.{take-append_seam, drop-append_seam}
use Rattle.np_syntax.specs.Numerals.{value}
use Rattle.np_syntax.specs.declared.limits.TheConstants.{LARGEST_NUMBER}
use Rattle.np_syntax.proofs.Bools.{and-out}
use Rattle.np_syntax.proofs.Options.{then, needed, done}
use Rattle.history_text.specs.Reading.{is_canonical, bounded, number_of, number_at}

-- ---- the longest front of which each byte passes a test

-- the bytes do not begin with one that passes
abbrev pub Ends : (ℕ → Bool) → List ℕ → Type 0
Ends test [] = Unit {0}
Ends test (byte ∷ bytes) = test byte ≡ false

ends_none : (test : ℕ → Bool) (rest : List ℕ) → Ends test rest → prefix_len test rest ≡ 0
ends_none test [] ends = refl
ends_none test (byte ∷ bytes) ends = rw ends

pub seam : (test : ℕ → Bool) (front rest : List ℕ) → list_all test front ≡ true → Ends test rest → prefix_len test (front ++ rest) ≡ length front
seam test [] rest all ends = ends_none test rest ends
seam test (byte ∷ front) rest all ends =
    let both = and-out (test byte) (list_all test front) all in
    let later : prefix_len test (front ++ rest) ≡ length front = seam test front rest both.1 ends in
    rw both.0 (omega arith)

pub front_take : (test : ℕ → Bool) (front rest : List ℕ) → list_all test front ≡ true → Ends test rest
    → take (prefix_len test (front ++ rest)) (front ++ rest) ≡ front
front_take test front rest all ends = ap (λ n. take n (front ++ rest)) (seam test front rest all ends) ∙ take-append_seam front rest

pub front_drop : (test : ℕ → Bool) (front rest : List ℕ) → list_all test front ≡ true → Ends test rest
    → drop (prefix_len test (front ++ rest)) (front ++ rest) ≡ rest
front_drop test front rest all ends = ap (λ n. drop n (front ++ rest)) (seam test front rest all ends) ∙ drop-append_seam front rest

pub front_all : (test : ℕ → Bool) (bytes : List ℕ) → list_all test (take (prefix_len test bytes) bytes) ≡ true
front_all test [] = refl
front_all test (byte ∷ bytes) = go (test byte) refl (front_all test bytes)
  where
    go : (b : Bool) → test byte ≡ b → list_all test (take (prefix_len test bytes) bytes) ≡ true
        → list_all test (take (prefix_len test (byte ∷ bytes)) (byte ∷ bytes)) ≡ true
    go true passes later = rw (passes, one-add) (rw passes later)
    go false fails later = rw fails refl

-- ---- digits

abbrev AreDigits : List ℕ → Type 0
AreDigits digits = list_all is_ascii_digit digits ≡ true

digits_model : IsNumeralModel AreDigits value
digits_model = numerals_by_fold _ (search rules) (fold (λ number digit. 10 * number + (digit - 48))) (search rules)

pub decimal_digits : (n : ℕ) → n < 2 ^ 32 → list_all is_ascii_digit (decimal n) ≡ true
decimal_digits n small = digits_decimal digits_model n (omega arith)

canonical_text : (digits : List ℕ) → 0 < length digits → (get_or digits 0 0 ≡ 48 → length digits ≡ 1) → is_canonical digits ≡ true
canonical_text [] some alone = absurd (omega arith)
canonical_text (digit ∷ []) some alone = refl
canonical_text (digit ∷ other ∷ digits) some alone = go (digit == 48) refl
  where
    go : (b : Bool) → (digit == 48) ≡ b → cond (digit == 48) false true ≡ true
    go true is = let nought : digit ≡ 48 = grind (arith, nat_tests) in absurd (omega (arith, alone nought))
    go false is = rw is

text_canonical : (digits : List ℕ) → is_canonical digits ≡ true → (0 < length digits) × (get_or digits 0 0 ≡ 48 → length digits ≡ 1)
text_canonical [] is = cc
text_canonical (digit ∷ []) is = (omega arith, λ nought. refl)
text_canonical (digit ∷ other ∷ digits) is = go (digit == 48) refl is
  where
    go : (b : Bool) → (digit == 48) ≡ b → cond b false true ≡ true
        → (0 < length (digit ∷ other ∷ digits)) × (digit ≡ 48 → length (digit ∷ other ∷ digits) ≡ 1)
    go true e k = cc
    go false e k = (omega arith, λ nought. absurd (grind (arith, nat_tests)))

alone : (n : ℕ) → n < 2 ^ 32 → get_or (decimal n) 0 0 ≡ 48 → length (decimal n) ≡ 1
alone zero small nought = ap length (decimal_digit 0 (omega arith))
alone (suc n) small nought = absurd (omega (arith, first_decimal (suc n) (omega arith) (omega arith)))

-- ---- numbers

bounded_text : (n : ℕ) → n < 2 ^ 32 → bounded (decimal n) ≡ Some n
bounded_text n small =
    let same : value (decimal n) ≡ n = digits_value-decimal digits_model n (omega arith) in
    let fits : nat_le (value (decimal n)) LARGEST_NUMBER ≡ true = rw same (grind (arith, nat_tests)) in
    rw fits (ap (λ m. Some m) same)

text_bounded : (digits : List ℕ) (n : ℕ) → bounded digits ≡ Some n → (value digits ≡ n) × (value digits < 2 ^ 32)
text_bounded digits n e = go (nat_le (value digits) LARGEST_NUMBER) refl e
  where
    go : (b : Bool) → nat_le (value digits) LARGEST_NUMBER ≡ b → cond b (Some (value digits)) None ≡ Some n → (value digits ≡ n) × (value digits < 2 ^ 32)
    go true fits k = (cc, grind (arith, nat_tests))
    go false fits k = cc

number_text : (n : ℕ) → n < 2 ^ 32 → number_of (decimal n) ≡ Some n
unfolding number_of
number_text n small =
    let canonical : is_canonical (decimal n) ≡ true = canonical_text (decimal n) (decimal_nonempty n (omega arith)) (alone n small) in
    rw canonical (bounded_text n small)

text_number : (digits : List ℕ) (n : ℕ) → list_all is_ascii_digit digits ≡ true → number_of digits ≡ Some n → (digits ≡ decimal n) × (n < 2 ^ 32)
unfolding number_of
text_number digits n all e =
    let parts = needed (is_canonical digits) (bounded digits) e in
    let form = text_canonical digits parts.0 in
    let worth = text_bounded digits n parts.1 in
    let same : value digits ≡ n = worth.0 in
    let small : value digits < 2 ^ 32 = worth.1 in
    let text : decimal (value digits) ≡ digits = decimal-digits_value digits_model digits all form.0 form.1 (omega arith) in
    (sym text ∙ ap decimal same, omega arith)

pub number_again : (n : ℕ) (rest : List ℕ) → n < 2 ^ 32 → Ends is_ascii_digit rest → number_at (decimal n ++ rest) ≡ Some (n, rest)
unfolding number_at
number_again n rest small ends =
    let digits : take (prefix_len is_ascii_digit (decimal n ++ rest)) (decimal n ++ rest) ≡ decimal n = front_take is_ascii_digit (decimal n) rest (decimal_digits n small) ends in
    let others : drop (prefix_len is_ascii_digit (decimal n ++ rest)) (decimal n ++ rest) ≡ rest = front_drop is_ascii_digit (decimal n) rest (decimal_digits n small) ends in
    rw (digits, others, number_text n small) refl

-- what was read at the front of bytes: this text, and the rest
pub record Takes (bytes text rest : List ℕ) : Type 0 where
  pub is : bytes ≡ text ++ rest

pub number_takes : (bytes : List ℕ) (x : ℕ × List ℕ) → number_at bytes ≡ Some x → Takes bytes (decimal x.0) x.1 × (x.0 < 2 ^ 32)
unfolding number_at
number_takes bytes x e = then (number_of (take (prefix_len is_ascii_digit bytes) bytes)) _ e (λ n reads same.
    let here : x ≡ (n, drop (prefix_len is_ascii_digit bytes) bytes) = done same in
    let worth = text_number (take (prefix_len is_ascii_digit bytes) bytes) n (front_all is_ascii_digit bytes) reads in
    let number : x.0 ≡ n = ap (λ (p : ℕ × List ℕ). p.0) here in
    let rest : x.1 ≡ drop (prefix_len is_ascii_digit bytes) bytes = ap (λ (p : ℕ × List ℕ). p.1) here in
    let small : n < 2 ^ 32 = worth.1 in
    (record { is = sym (take-append-drop (prefix_len is_ascii_digit bytes) bytes) ∙ ap (λ l. l ++ drop (prefix_len is_ascii_digit bytes) bytes) worth.0 ∙ rw (number, rest) refl }, omega arith))
