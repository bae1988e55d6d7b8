-- Decimal digits, and the numbers that they write.
use Rattle.std.proofs.Common.{◌≡◌, ℕ, ◌+◌, ◌*◌, ◌-◌, ◌<◌, ◌≤◌, List, [], ◌∷◌, ◌++◌, take, drop, get_or, length, true, sym, ap, None, rules, arith}
use Rattle.std.specs.Prelude.{fold, nat_le, false}
use Rattle.std.specs.Char.{is_ascii_digit}
use Rattle.std.specs.List.{list_all}
use Rattle.std.specs.Str.Parse.{digits_value}
use Rattle.std.proofs.lemmas.Bool.Decides.{nat_tests}
use Rattle.std.proofs.lemmas.List.Sums.{fold-append, fold_more}
use Rattle.std.proofs.lemmas.List.{take-append-drop}
use Rattle.std.proofs.lemmas.Str.Parse.{IsNumeralModel, numerals_by_value}
use Rattle.np_syntax.specs.Numerals.{value, value_within}

-- texts of digits, and what `parse` reads them as
pub digits_model : IsNumeralModel (λ digits. list_all is_ascii_digit digits ≡ true) (digits_value 10)
digits_model = numerals_by_value _ (search rules)

-- ---- a number does not shrink as digits come

abbrev step : ℕ → ℕ → ℕ
step number digit = 10 * number + (digit - 48)

grows : (number : ℕ) (digits : List ℕ) → number ≤ fold step number digits
grows number [] = omega arith
grows number (digit ∷ digits) = omega (arith, grows (step number digit) digits)

-- the value of a front is no more than that of the whole
value_take : (digits : List ℕ) (count : ℕ) → value (take count digits) ≤ value digits
value_take digits count =
    let whole : value digits ≡ value (take count digits ++ drop count digits) = ap value (sym (take-append-drop count digits)) in
    let more : value (take count digits ++ drop count digits) ≡ fold step (value (take count digits)) (drop count digits) = fold-append step 0 (take count digits) (drop count digits) in
    omega (arith, grows (value (take count digits)) (drop count digits))

-- a front whose number is too large with the next digit
pub too_large : (most : ℕ) (digits : List ℕ) (index number : ℕ) → index < length digits → number ≡ value (take index digits)
    → most < 10 * number + (get_or digits index 0 - 48) → None ≡ value_within most digits
too_large most digits index number inside same large =
    let next : value (take (index + 1) digits) ≡ 10 * value (take index digits) + (get_or digits index 0 - 48) = fold_more step 0 digits index 0 inside in
    let above : nat_le (value digits) most ≡ false = grind (arith, nat_tests, value_take digits (index + 1)) in
    rw above
