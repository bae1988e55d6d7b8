-- Each token has one text.
use Rattle.std.proofs.Common.{◌≡◌, ℕ, ℤ, ◌+◌, ◌-◌, ◌*◌, true, false, List, [], ◌∷◌, ◌++◌, decimal, inl, inr, refl, sym, ap, arith, rules, subst, ◌∙◌}
use Rattle.std.specs.Prelude.{fold, ◌==◌}
use Rattle.std.specs.Fmt.{signed_decimal}
use Rattle.std.specs.List.{flat_map}
use Rattle.std.proofs.lemmas.Bool.Decides.{nat_tests}
use Rattle.std.specs.Char.{is_ascii_digit}
use Rattle.std.proofs.lemmas.Str.Parse.{IsNumeralModel, numerals_by_fold}
use Rattle.std.proofs.lemmas.Fmt.{decimal-digits_value, decimal_digit}
use Rattle.np_syntax.specs.Escapes.{IsEscape}
use Rattle.np_syntax.specs.Numerals.{value}
use Rattle.np_syntax.specs.Printed.{escaped}
use Rattle.np_lex.specs.declared.token.What.{What}
use Rattle.np_lex.specs.declared.token.What.TheVariants as what
use Rattle.np_lex.specs.Tokens as t
use Rattle.np_lex.specs.Tokens.{is_plain, Each, IsBody, IsToken, IsLegal}
use Rattle.np_lex.specs.Spelling.{spelling}

-- ---- numbers

digits_model : IsNumeralModel (Each is_ascii_digit) value
digits_model = numerals_by_fold _ (search rules) (fold (λ number digit. 10 * number + (digit - 48))) (search rules)

pub number_text : {text : List ℕ} {n : ℤ} → IsToken text (what.Number n) → text ≡ signed_decimal n
number_text t.nought = sym (decimal_digit 0 (omega arith))
number_text (t.number {byte = byte} {bytes = bytes} digit other each same small) =
    sym (ap decimal (sym same) ∙ decimal-digits_value digits_model (byte ∷ bytes) (digit, each) (omega arith) (λ e. absurd (other e)) (omega (arith, same)))

-- ---- strings

plain_escaped : (byte : ℕ) → is_plain byte ≡ true → escaped byte ≡ byte ∷ []
plain_escaped byte plain =
    let no_newline : (byte == 10) ≡ false = grind (arith, nat_tests) in
    let no_quote : (byte == 34) ≡ false = grind (arith, nat_tests) in
    let no_backslash : (byte == 92) ≡ false = grind (arith, nat_tests) in
    rw (no_newline, no_quote, no_backslash)

escape_escaped : (byte letter : ℕ) → IsEscape byte letter → escaped byte ≡ 92 ∷ letter ∷ []
escape_escaped byte letter (inl e) = rw (e.0, e.1) refl
escape_escaped byte letter (inr (inl e)) = rw (e.0, e.1) refl
escape_escaped byte letter (inr (inr (inl e))) = rw (e.0, e.1) refl
escape_escaped byte letter (inr (inr (inr e))) = absurd e

-- a byte that is written so, and what stands behind it
written : (byte : ℕ) (bytes front text : List ℕ) → escaped byte ≡ front → bytes ≡ flat_map escaped text → front ++ bytes ≡ flat_map escaped (byte ∷ text)
written byte bytes front text e same = ap (λ l. front ++ l) same ∙ ap (λ l. l ++ flat_map escaped text) (sym e)

body_text : {bytes text : List ℕ} → IsBody bytes text → bytes ≡ flat_map escaped text
body_text t.nothing = refl
body_text (t.plain {byte = byte} {bytes = bytes} {text = text} plain body) = written byte bytes (byte ∷ []) text (plain_escaped byte plain) (body_text body)
body_text (t.escape {byte = byte} {letter = letter} {bytes = bytes} {text = text} is body) =
    written byte bytes (92 ∷ letter ∷ []) text (escape_escaped byte letter is) (body_text body)

-- ---- tokens

pub token_text : {text : List ℕ} {w : What} → IsToken text w → text ≡ spelling w
token_text (t.key k) = refl
token_text (t.name letter each few other) = refl
token_text t.nought = number_text t.nought
token_text (t.number digit other each same small) = number_text (t.number digit other each same small)
token_text (t.string body few) = ap (λ l. 34 ∷ (l ++ 34 ∷ [])) (body_text body)
token_text (t.sign s) = refl

-- a token of some bytes is that of its spelling
pub spelling_token : {w : What} → IsLegal w → IsToken (spelling w) w
spelling_token {w = w} legal = subst (λ l. IsToken l w) (token_text legal.means) legal.means
