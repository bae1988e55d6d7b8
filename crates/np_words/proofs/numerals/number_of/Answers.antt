use Rattle.std.proofs.Common.{◌≡◌, ℕ, ◌<◌, ◌^◌, List, length, Option, None, Result, Ok, Err, true, false, ◌&&◌, refl, sym, ap, ◌∙◌, arith}
use Rattle.std.specs.Prelude.{nat_le, nat_lt}
use Rattle.std.specs.List.{list_all}
use Rattle.std.specs.Char.{is_ascii_digit}
use Rattle.std.specs.Str.Parse.{digits_value, ParsesUnsigned}
use Rattle.std.specs.Result.{OkIff}
use Rattle.std.proofs.lemmas.Bool.Decides.{nat_tests}
use Rattle.std.proofs.lemmas.Str.Parse.{parse_digits}
use Rattle.np_syntax.proofs.Bools.{and-out, and-false}
use Rattle.np_syntax.proofs.Numerals.{digits_model}
use Rattle.np_words.specs.Modes.{number_of, is_numeral, within}
use Rattle.np_words.proofs.numerals.number_of.Goals as goal

-- a numeral is of digits, and not empty
digits : (n : ℕ) (word : List ℕ) → is_numeral n word ≡ true → (list_all is_ascii_digit word ≡ true) × (0 < length word)
digits n word e =
    let long = and-out (nat_lt 0 (length word) && nat_le (length word) n) _ e in
    let some = and-out (nat_lt 0 (length word)) _ long.0 in
    (long.1, grind (arith, nat_tests, some.0))

-- the number that was read, if it is not too large
abbrev read : {E : Type 0} → ℕ → Result ℕ E → Option ℕ
read most (Ok n) = within most n
read most (Err e) = None

large : (most n : ℕ) → most < 2 ^ 32 → ¬ (n < 2 ^ 32) → within most n ≡ None
large most n m h = let above : nat_le n most ≡ false = grind (arith, nat_tests) in rw (above, and-false (nat_le 1 n)) refl

by_value : {E : Type 0} (most : ℕ) (word : List ℕ) (r : Result ℕ E) → most < 2 ^ 32 → 0 < length word
    → OkIff r ((0 < length word) × (digits_value 10 word < 2 ^ 32)) (digits_value 10 word) → read most r ≡ within most (digits_value 10 word)
by_value most word (Ok n) m some h = ap (within most) h.1
by_value most word (Err e) m some h = sym (large most (digits_value 10 word) m (λ small. h (some, small)))

gives : {E : Type 0} (n most : ℕ) (word : List ℕ) (r : Result ℕ E) → most < 2 ^ 32 → ParsesUnsigned 32 10 word r → is_numeral n word ≡ true
    → read most r ≡ number_of n most word
gives n most word r m h e =
    let d = digits n word e in
    let parsed : OkIff r ((0 < length word) × (digits_value 10 word < 2 ^ 32)) (digits_value 10 word) = parse_digits digits_model 32 word r h d.0 in
    rw e (by_value most word r m d.1 parsed)

pub returns-in-Ok-clause-is : goal.returns-in-Ok-clause-is
returns-in-Ok-clause-is c =
    let numeral : is_numeral c.args.digits c.args.word.now ≡ true = ap (is_numeral c.args.digits) (sym c.as_bytes.ensures.value) ∙ sym c.is_numeral.ensures ∙ c.if-not-is_numeral.false in
    c.within.ensures.is ∙ ap (read c.args.most) (sym c.in-Ok.is) ∙ gives c.args.digits c.args.most c.args.word.now c.parse.result c.ranges.most.fits c.parse.ensures.value.0 numeral

pub returns-in-Err-clause-is : goal.returns-in-Err-clause-is
returns-in-Err-clause-is c =
    let numeral : is_numeral c.args.digits c.args.word.now ≡ true = ap (is_numeral c.args.digits) (sym c.as_bytes.ensures.value) ∙ sym c.is_numeral.ensures ∙ c.if-not-is_numeral.false in
    ap (read c.args.most) (sym c.in-Err.is) ∙ gives c.args.digits c.args.most c.args.word.now c.parse.result c.ranges.most.fits c.parse.ensures.value.0 numeral
