-- The tokens of a text that is written piece by piece.
use Rattle.std.proofs.Common.{◌≡◌, ℕ, ℤ, pos, ◌+◌, Bool, true, false, List, [], ◌∷◌, ◌++◌, length, refl, sym, subst, arith, append_assoc}
use Rattle.std.specs.Prelude.{◌==◌}
use Rattle.std.specs.Fmt.{signed_decimal}
use Rattle.std.proofs.Math.Seq.{drop-append_seam}
use Rattle.std.proofs.lemmas.Bool.Decides.{nat_tests}
use Rattle.std.specs.Char.{is_ascii_digit}
use Rattle.np_lex.specs.declared.token.Token.{Token}
use Rattle.np_lex.specs.declared.token.What.{What}
use Rattle.np_lex.specs.declared.token.What.TheVariants as what
use Rattle.np_lex.specs.declared.token.Key.{Key}
use Rattle.np_lex.specs.declared.token.Sign.{Sign}
use Rattle.np_lex.specs.declared.token.Sign.TheVariants as signs
use Rattle.np_lex.specs.Tokens as t
use Rattle.np_lex.specs.Tokens.{is_letter, is_blank, goes_on, skip_len, IsToken, IsLegal, IsLongest, Lexes, token, sign_at, word_at, name_at, sign_text, key_text}
use Rattle.np_syntax.specs.Printed.{quoted}
use Rattle.np_syntax.proofs.Bools.{and-out, clash}
use Rattle.np_lex.proofs.Longest.{Stops, Alone, head, is_word, key_word, name_word, word_longest, digits_longest, nought_longest, single_longest, pair_longest}
use Rattle.np_lex.proofs.Quotes.{string_longest}
use Rattle.np_lex.proofs.Spelling.{spelling_token}

-- From the first offset, where these bytes stand, these tokens go to the second offset, where the others stand.
pub record Goes (at : ℕ) (bytes : List ℕ) (ts : List Token) (end : ℕ) (rest : List ℕ) : Type 0 where
  pub goes : (us : List Token) → Lexes end rest us → Lexes at bytes (ts ++ us)

pub then : {a b c : ℕ} {x y z : List ℕ} {ts us : List Token} → Goes a x ts b y → Goes b y us c z → Goes a x (ts ++ us) c z
then {ts = ts} {us = us} g h = record { goes = λ vs l. rw append_assoc (g.goes (us ++ vs) (h.goes vs l)) }

blank_skips : (byte : ℕ) (rest : List ℕ) → is_blank byte ≡ true → skip_len (byte ∷ rest) ≡ 1
blank_skips byte rest blank = rw blank

pub blank_goes : (byte : ℕ) → is_blank byte ≡ true → (at : ℕ) (rest : List ℕ) → Goes at (byte ∷ rest) [] (at + 1) rest
blank_goes byte blank at rest = record { goes = λ us l. (let one = blank_skips byte rest blank in t.skip (rw one (omega arith)) (rw one l)) }

-- a space
pub blank : (at : ℕ) (rest : List ℕ) → Goes at (32 ∷ rest) [] (at + 1) rest
blank = blank_goes 32 refl

one : {text : List ℕ} {w : What} (at : ℕ) (rest : List ℕ) → skip_len (text ++ rest) ≡ 0 → IsToken text w → IsLongest text rest
    → Goes at (text ++ rest) (token at (at + length text) w ∷ []) (at + length text) rest
one {text = text} at rest plain means longest = record {
  goes = λ us l.
      t.next (length text) plain (record { text = text; rest = rest; is = refl; counts = refl; means = means; longest = longest })
      (subst (λ k. Lexes (at + length text) k us) (sym (drop-append_seam text rest)) l);
}

-- ---- signs

-- a sign behind which anything may stand
abbrev pub Plain : Sign → Type 0
Plain signs.Minus = ⊥
Plain signs.Equals = ⊥
Plain _ = Unit {0}

other_alone : (byte : ℕ) (rest : List ℕ) → (byte == 45) ≡ false → (byte == 61) ≡ false → Alone byte rest
other_alone byte [] minus equals = tt
other_alone byte (second ∷ rest) minus equals = rw (minus, equals)

pub sign_goes : (s : Sign) → Plain s → (at : ℕ) (rest : List ℕ) → Goes at (sign_text s ++ rest) (sign_at at (at + length (sign_text s)) s ∷ []) (at + length (sign_text s)) rest
sign_goes signs.Minus plain at rest = absurd plain
sign_goes signs.Equals plain at rest = absurd plain
sign_goes signs.Arrow plain at rest = one at rest refl (t.sign signs.Arrow) (pair_longest 45 62 rest refl)
sign_goes signs.Same plain at rest = one at rest refl (t.sign signs.Same) (pair_longest 61 61 rest refl)
sign_goes s plain at rest = one at rest refl (t.sign s) (single_longest (head (sign_text s)) rest refl (other_alone (head (sign_text s)) rest refl refl))

-- a sign and a space behind it
pub spaced : (s : Sign) (at : ℕ) (rest : List ℕ) → Goes at (sign_text s ++ 32 ∷ rest) (sign_at at (at + length (sign_text s)) s ∷ []) (at + length (sign_text s)) (32 ∷ rest)
spaced signs.Minus at rest = one at (32 ∷ rest) refl (t.sign signs.Minus) (single_longest 45 (32 ∷ rest) refl refl)
spaced signs.Equals at rest = one at (32 ∷ rest) refl (t.sign signs.Equals) (single_longest 61 (32 ∷ rest) refl refl)
spaced s at rest = sign_goes s tt at (32 ∷ rest)

-- ---- words, numbers and strings

-- the bytes go on with no word and no number
abbrev pub Soft : List ℕ → Type 0
Soft [] = Unit {0}
Soft (byte ∷ rest) = goes_on byte ≡ false

no_more : (test : ℕ → Bool) (rest : List ℕ) → ((byte : ℕ) → test byte ≡ true → goes_on byte ≡ true) → Soft rest → Stops test rest
no_more test rest passes soft [] after e each = refl
no_more test rest passes soft (byte ∷ more) after e each = absurd (clash (subst Soft e soft) (passes byte each.0))

word_stops : (rest : List ℕ) → Soft rest → Stops goes_on rest
word_stops rest soft = no_more goes_on rest (λ byte e. e) soft

digits_stop : (rest : List ℕ) → Soft rest → Stops is_ascii_digit rest
digits_stop rest soft = no_more is_ascii_digit rest (λ byte digit. grind (arith, nat_tests)) soft

no_skip : (byte : ℕ) (rest : List ℕ) → is_blank byte ≡ false → (byte == 45) ≡ false → skip_len (byte ∷ rest) ≡ 0
no_skip byte rest blank minus = rw (blank, minus)

word_skip : (text rest : List ℕ) → is_word text ≡ true → skip_len (text ++ rest) ≡ 0
word_skip [] rest word = cc
word_skip (byte ∷ bytes) rest word = let letter = (and-out (is_letter byte) _ word).0 in no_skip byte (bytes ++ rest) (grind (arith, nat_tests)) (grind (arith, nat_tests))

digit_skip : (byte : ℕ) (rest : List ℕ) → is_ascii_digit byte ≡ true → skip_len (byte ∷ rest) ≡ 0
digit_skip byte rest digit = no_skip byte rest (grind (arith, nat_tests)) (grind (arith, nat_tests))

word_goes : {text : List ℕ} {w : What} → is_word text ≡ true → IsToken text w → (at : ℕ) (rest : List ℕ) → Soft rest → Goes at (text ++ rest) (token at (at + length text) w ∷ []) (at + length text) rest
word_goes {text = text} word means at rest soft = one at rest (word_skip text rest word) means (word_longest text rest word (word_stops rest soft))

pub key_goes : (k : Key) (at : ℕ) (rest : List ℕ) → Soft rest → Goes at (key_text k ++ rest) (word_at at (at + length (key_text k)) k ∷ []) (at + length (key_text k)) rest
key_goes k = word_goes (key_word k) (t.key k)

name_is_word : {text name : List ℕ} → IsToken text (what.Ident name) → is_word text ≡ true
name_is_word (t.name {byte = byte} {bytes = bytes} letter each few other) = name_word byte bytes letter each

pub ident_goes : {text : List ℕ} → IsLegal (what.Ident text) → (at : ℕ) (rest : List ℕ) → Soft rest → Goes at (text ++ rest) (name_at at (at + length text) text ∷ []) (at + length text) rest
ident_goes legal = let means = spelling_token legal in word_goes (name_is_word means) means

number_at : {text : List ℕ} {n : ℤ} → IsToken text (what.Number n) → (at : ℕ) (rest : List ℕ) → Soft rest → Goes at (text ++ rest) (token at (at + length text) (what.Number n) ∷ []) (at + length text) rest
number_at t.nought at rest soft = one at rest refl t.nought (nought_longest rest)
number_at (t.number {byte = byte} {bytes = bytes} digit other each same small) at rest soft =
    one at rest (digit_skip byte (bytes ++ rest) digit) (t.number digit other each same small) (digits_longest byte bytes rest digit (digits_stop rest soft))

pub number_goes : {n : ℤ} → IsLegal (what.Number n) → (at : ℕ) (rest : List ℕ) → Soft rest
    → Goes at (signed_decimal n ++ rest) (token at (at + length (signed_decimal n)) (what.Number n) ∷ []) (at + length (signed_decimal n)) rest
number_goes legal = number_at (spelling_token legal)

-- the number 0, behind which anything may stand
pub nought_goes : (at : ℕ) (rest : List ℕ) → Goes at (48 ∷ rest) (token at (at + 1) (what.Number (pos 0)) ∷ []) (at + 1) rest
nought_goes at rest = one at rest refl t.nought (nought_longest rest)

string_at : {text inner : List ℕ} → IsToken text (what.Str inner) → (at : ℕ) (rest : List ℕ) → Goes at (text ++ rest) (token at (at + length text) (what.Str inner) ∷ []) (at + length text) rest
string_at (t.string body few) at rest = one at rest refl (t.string body few) (string_longest rest body)

pub string_goes : {text : List ℕ} → IsLegal (what.Str text) → (at : ℕ) (rest : List ℕ)
    → Goes at (quoted text ++ rest) (token at (at + length (quoted text)) (what.Str text) ∷ []) (at + length (quoted text)) rest
string_goes legal = string_at (spelling_token legal)
