-- What `parse` gives of a text is the number that the text writes.
use Rattle.std.proofs.Common.{◌≡◌, ℕ, ◌<◌, ◌^◌, List, length, Bool, true, false, ◌&&◌, Some, None, Result, Ok, Err, if◌then◌else◌, refl, ap, arith}
use Rattle.std.specs.Prelude.{nat_lt}
use Rattle.std.specs.List.{list_all}
use Rattle.std.specs.Char.{is_ascii_digit}
use Rattle.std.specs.Result.{OkIff, result_ok}
use Rattle.std.specs.Str.Parse.{digits_value, IsNumeral, ParsesUnsigned, without_leading_plus}
use Rattle.std.proofs.lemmas.Bool.Decides.{nat_tests}
use Rattle.np_syntax.proofs.Bools.{and-in, and-out}
use Rattle.np_syntax.proofs.Numerals.{digits_model}
use Rattle.np_example_files.specs.Numbers.{is_numeral, number_below}

below : (n m : ℕ) → nat_lt n m ≡ true → n < m
below n m h = grind (arith, nat_tests)

is-below : (n m : ℕ) → n < m → nat_lt n m ≡ true
is-below n m h = grind (arith, nat_tests)

passes : (bound : ℕ) (ds : List ℕ) → IsNumeral 10 ds × (digits_value 10 ds < bound) → (is_numeral ds && nat_lt (digits_value 10 ds) bound) ≡ true
passes bound ds h = and-in (and-in (is-below 0 (length ds) h.0.0) (digits_model.from ds h.0.1)) (is-below (digits_value 10 ds) bound h.1)

passed : (bound : ℕ) (ds : List ℕ) → (is_numeral ds && nat_lt (digits_value 10 ds) bound) ≡ true → IsNumeral 10 ds × (digits_value 10 ds < bound)
passed bound ds h =
    let both = and-out (is_numeral ds) (nat_lt (digits_value 10 ds) bound) h in
    let numeral = and-out (nat_lt 0 (length ds)) (list_all is_ascii_digit ds) both.0 in
    ((below 0 (length ds) numeral.0, digits_model.to ds numeral.1), below (digits_value 10 ds) bound both.1)

-- a result that is Ok just where a test passes
by_test : {E : Type 0} (b : Bool) (P : Type 0) (v : ℕ) → (P → b ≡ true) → (b ≡ true → P) → (r : Result ℕ E) → OkIff r P v → result_ok r ≡ (if b then Some v else None)
by_test true P v from to (Ok n) h = ap Some h.1
by_test false P v from to (Ok n) h = let no : false ≡ true = from h.0 in absurd cc
by_test true P v from to (Err e) h = absurd (h (to refl))
by_test false P v from to (Err e) h = refl

pub number_read : {E : Type 0} (bits : ℕ) (text : List ℕ) (r : Result ℕ E) → ParsesUnsigned bits 10 text r → result_ok r ≡ number_below (2 ^ bits) text
unfolding number_below
number_read bits text r h =
    let ds : List ℕ = without_leading_plus text in
    by_test (is_numeral ds && nat_lt (digits_value 10 ds) (2 ^ bits)) (IsNumeral 10 ds × (digits_value 10 ds < 2 ^ bits)) (digits_value 10 ds)
    (passes (2 ^ bits) ds) (passed (2 ^ bits) ds) r h
