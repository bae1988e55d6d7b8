-- What may stand behind a token, so that no longer front is of a form.
use Rattle.std.proofs.Common.{◌≡◌, ℕ, ◌⊎◌, inl, inr, List, [], ◌∷◌, ◌++◌, length, refl, sym, ap, ◌∙◌, subst, arith, append-nil}
use Rattle.std.specs.Prelude.{Bool, true, false, ◌&&◌, ◌||◌, ◌==◌}
use Rattle.std.specs.List.{prefix_len, list_all}
use Rattle.std.proofs.lemmas.Bool.Decides.{nat_tests}
use Rattle.std.specs.Char.{is_ascii_digit}
use Rattle.np_syntax.proofs.Bools.{and-out, clash}
use Rattle.np_lex.specs.declared.token.Key.{Key}
use Rattle.np_lex.specs.declared.token.Key.TheVariants as keys
use Rattle.np_lex.specs.declared.token.Sign.{Sign}
use Rattle.np_lex.specs.declared.token.Sign.TheVariants as signs
use Rattle.np_lex.specs.Tokens as t
use Rattle.np_lex.specs.Tokens.{is_letter, goes_on, Each, IsForm, IsBody, IsLongest, sign_text, key_text}
use Rattle.np_lex.specs.Lexing.{is_pair}

-- ---- the longest front of which each byte passes a test

-- no byte that passes stands at the front
abbrev pub Stops : (ℕ → Bool) → List ℕ → Type 0
Stops test rest = (more after : List ℕ) → rest ≡ more ++ after → Each test more → more ≡ []

pub record Run (test : ℕ → Bool) (bytes : List ℕ) : Type 0 where
  pub text : List ℕ
  pub rest : List ℕ
  pub is : bytes ≡ text ++ rest
  pub each : Each test text
  pub stops : Stops test rest
  pub counts : length text ≡ prefix_len test bytes

pub run_of : (test : ℕ → Bool) (bytes : List ℕ) → Run test bytes
run_of test [] = record { text = []; rest = []; is = refl; each = tt; stops = none; counts = refl }
  where
    none : (more after : List ℕ) → (let e : List ℕ = [] in e) ≡ more ++ after → Each test more → more ≡ []
    none [] after e each = refl
    none (byte ∷ more) after e each = cc
run_of test (byte ∷ bytes) = go (test byte) refl (run_of test bytes)
  where
    halt : test byte ≡ false → (more after : List ℕ) → byte ∷ bytes ≡ more ++ after → Each test more → more ≡ []
    halt fails [] after e each = refl
    halt fails (next ∷ more) after e each = let same : byte ≡ next = cc in let passes : test byte ≡ true = ap test same ∙ each.0 in cc

    go : (b : Bool) → test byte ≡ b → Run test bytes → Run test (byte ∷ bytes)
    go true passes r = record {
      text = byte ∷ r.text;
      rest = r.rest;
      is = ap (λ l. byte ∷ l) r.is;
      each = (passes, r.each);
      stops = r.stops;
      counts = rw passes (let e : length r.text ≡ prefix_len test bytes = r.counts in omega arith);
    }
    go false fails r = record { text = []; rest = byte ∷ bytes; is = refl; each = tt; stops = halt fails; counts = rw fails }

each_rest : (test : ℕ → Bool) (front rest : List ℕ) → Each test (front ++ rest) → Each test rest
each_rest test [] rest each = each
each_rest test (byte ∷ front) rest each = each_rest test front rest each.1

each_of : (test : ℕ → Bool) (bytes : List ℕ) → list_all test bytes ≡ true → Each test bytes
each_of test [] all = tt
each_of test (byte ∷ bytes) all = go (test byte) refl (each_of test bytes) all
  where
    go : (b : Bool) → test byte ≡ b → (list_all test bytes ≡ true → Each test bytes) → (b && list_all test bytes) ≡ true → Each test (byte ∷ bytes)
    go true e rest k = (e, rest k)
    go false e rest k = cc

all_of : (test : ℕ → Bool) (bytes : List ℕ) → Each test bytes → list_all test bytes ≡ true
all_of test [] each = refl
all_of test (byte ∷ bytes) each = rw (each.0, all_of test bytes each.1)

-- ---- bytes

abbrev pub head : List ℕ → ℕ
head [] = 0
head (byte ∷ bytes) = byte

abbrev pub tail : List ℕ → List ℕ
tail [] = []
tail (byte ∷ bytes) = bytes

pub differ : (a b : ℕ) → (a == b) ≡ false → a ≡ b → ⊥
differ a b fails same = grind (arith, nat_tests)

pub apart : (byte : ℕ) → is_letter byte ≡ true → is_ascii_digit byte ≡ true → ⊥
apart byte letter digit = grind (arith, nat_tests)

-- a byte with which a word, a number or a string begins
abbrev pub starts : ℕ → Bool
starts byte = is_letter byte || is_ascii_digit byte || byte == 34

letter_starts : (byte : ℕ) → is_letter byte ≡ true → starts byte ≡ true
letter_starts byte letter = rw letter

digit_starts : (byte : ℕ) → is_ascii_digit byte ≡ true → starts byte ≡ true
digit_starts byte digit = grind (arith, nat_tests)

quote_letter : (byte : ℕ) → 34 ≡ byte → is_letter byte ≡ true → ⊥
quote_letter byte e letter = let wrong : is_letter 34 ≡ true = subst (λ b. is_letter b ≡ true) (sym e) letter in cc

quote_digit : (byte : ℕ) → 34 ≡ byte → is_ascii_digit byte ≡ true → ⊥
quote_digit byte e digit = let wrong : is_ascii_digit 34 ≡ true = subst (λ b. is_ascii_digit b ≡ true) (sym e) digit in cc

nought_letter : (byte : ℕ) → 48 ≡ byte → is_letter byte ≡ true → ⊥
nought_letter byte e letter = let wrong : is_letter 48 ≡ true = subst (λ b. is_letter b ≡ true) (sym e) letter in cc

-- ---- keywords and signs

abbrev pub is_word : List ℕ → Bool
is_word [] = false
is_word (byte ∷ bytes) = is_letter byte && list_all goes_on bytes

pub key_word : (k : Key) → is_word (key_text k) ≡ true
key_word keys.Sites = refl
key_word k = refl

pub name_word : (byte : ℕ) (bytes : List ℕ) → is_letter byte ≡ true → Each goes_on bytes → is_word (byte ∷ bytes) ≡ true
name_word byte bytes letter each = rw (letter, all_of goes_on bytes each)

pub word_form : (text : List ℕ) → is_word text ≡ true → IsForm text
word_form [] word = cc
word_form (byte ∷ bytes) word = let h = and-out (is_letter byte) (list_all goes_on bytes) word in t.word h.0 (each_of goes_on bytes h.1)

pub sign_head : (s : Sign) → starts (head (sign_text s)) ≡ false
sign_head signs.Semi = refl
sign_head s = refl

sign_starts : (s : Sign) (byte : ℕ) (rest : List ℕ) → sign_text s ≡ byte ∷ rest → starts byte ≡ false
sign_starts s byte rest e = subst (λ b. starts b ≡ false) (ap head e) (sign_head s)

-- one byte, or a pair
abbrev shaped : List ℕ → Bool
shaped [] = false
shaped (first ∷ []) = true
shaped (first ∷ second ∷ []) = is_pair first second
shaped (first ∷ second ∷ third ∷ rest) = false

sign_shaped : (s : Sign) → shaped (sign_text s) ≡ true
sign_shaped signs.Semi = refl
sign_shaped s = refl

-- what a sign is that begins with this byte: the byte alone, or a pair
pub sign_splits : (s : Sign) (byte : ℕ) (rest : List ℕ) → sign_text s ≡ byte ∷ rest → (rest ≡ []) ⊎ ((second : ℕ) × (rest ≡ second ∷ []) × (is_pair byte second ≡ true))
sign_splits s byte rest e = go rest (ap shaped (sym e) ∙ sign_shaped s)
  where
    go : (rest : List ℕ) → shaped (byte ∷ rest) ≡ true → (rest ≡ []) ⊎ ((second : ℕ) × (rest ≡ second ∷ []) × (is_pair byte second ≡ true))
    go [] k = inl refl
    go (second ∷ []) k = inr (second, refl, k)
    go (second ∷ third ∷ rest) k = cc

-- ---- what a form is that begins with this byte

pub form_word : {text : List ℕ} → IsForm text → (byte : ℕ) (rest : List ℕ) → text ≡ byte ∷ rest → is_letter byte ≡ true → Each goes_on rest
form_word (t.word {bytes = bytes} first each) byte rest e letter = let same : bytes ≡ rest = cc in subst (Each goes_on) same each
form_word t.nought byte rest e letter = let same : 48 ≡ byte = cc in absurd (nought_letter byte same letter)
form_word (t.number {byte = first} digit other each) byte rest e letter = let same : first ≡ byte = cc in absurd (apart byte letter (subst (λ b. is_ascii_digit b ≡ true) same digit))
form_word (t.string body) byte rest e letter = absurd (quote_letter byte (ap head e) letter)
form_word (t.sign s) byte rest e letter = absurd (clash (sign_starts s byte rest e) (letter_starts byte letter))

pub form_digits : {text : List ℕ} → IsForm text → (byte : ℕ) (rest : List ℕ) → text ≡ byte ∷ rest → is_ascii_digit byte ≡ true → Each is_ascii_digit rest
form_digits (t.word {byte = first} letter each) byte rest e digit = let same : first ≡ byte = cc in absurd (apart byte (subst (λ b. is_letter b ≡ true) same letter) digit)
form_digits t.nought byte rest e digit = let same : [] ≡ rest = cc in subst (Each is_ascii_digit) same tt
form_digits (t.number {bytes = bytes} first other each) byte rest e digit = let same : bytes ≡ rest = cc in subst (Each is_ascii_digit) same each
form_digits (t.string body) byte rest e digit = absurd (quote_digit byte (ap head e) digit)
form_digits (t.sign s) byte rest e digit = absurd (clash (sign_starts s byte rest e) (digit_starts byte digit))

pub form_nought : {text : List ℕ} → IsForm text → (rest : List ℕ) → text ≡ 48 ∷ rest → rest ≡ []
form_nought (t.word {byte = byte} letter each) rest e = let same : 48 ≡ byte = cc in absurd (nought_letter byte same letter)
form_nought t.nought rest e = cc
form_nought (t.number {byte = byte} digit other each) rest e = let same : byte ≡ 48 = cc in absurd (other same)
form_nought (t.string body) rest e = absurd (differ 34 48 refl (ap head e))
form_nought (t.sign s) rest e = absurd (clash (sign_starts s 48 rest e) refl)

-- the rest of a string, behind its opening quote
pub record Quoted (rest : List ℕ) : Type 0 where
  pub bytes : List ℕ
  pub text : List ℕ
  pub body : IsBody bytes text
  pub is : bytes ++ 34 ∷ [] ≡ rest

pub form_string : {text : List ℕ} → IsForm text → (rest : List ℕ) → text ≡ 34 ∷ rest → Quoted rest
form_string (t.word {byte = byte} letter each) rest e = let same : 34 ≡ byte = cc in absurd (quote_letter byte same letter)
form_string t.nought rest e = absurd (differ 48 34 refl (ap head e))
form_string (t.number {byte = byte} digit other each) rest e = let same : 34 ≡ byte = cc in absurd (quote_digit byte same digit)
form_string (t.string {bytes = bytes} {text = text} body) rest e = record { bytes = bytes; text = text; body = body; is = ap tail e }
form_string (t.sign s) rest e = absurd (clash (sign_starts s 34 rest e) refl)

pub record Signed (text : List ℕ) : Type 0 where
  pub s : Sign
  pub is : sign_text s ≡ text

pub form_sign : {text : List ℕ} → IsForm text → (byte : ℕ) (rest : List ℕ) → text ≡ byte ∷ rest → starts byte ≡ false → Signed (byte ∷ rest)
form_sign (t.word {byte = first} letter each) byte rest e plain = let same : first ≡ byte = cc in absurd (clash plain (letter_starts byte (subst (λ b. is_letter b ≡ true) same letter)))
form_sign t.nought byte rest e plain = absurd (clash plain (subst (λ b. starts b ≡ true) (ap head e) refl))
form_sign (t.number {byte = first} digit other each) byte rest e plain =
    let same : first ≡ byte = cc in absurd (clash plain (digit_starts byte (subst (λ b. is_ascii_digit b ≡ true) same digit)))
form_sign (t.string body) byte rest e plain = absurd (clash plain (subst (λ b. starts b ≡ true) (ap head e) refl))
form_sign (t.sign s) byte rest e plain = record { s = s; is = e }

pub form_some : {text : List ℕ} → IsForm text → text ≡ [] → ⊥
form_some (t.word letter each) e = cc
form_some t.nought e = cc
form_some (t.number digit other each) e = cc
form_some (t.string body) e = cc
form_some (t.sign s) e = clash (ap shaped e) (sign_shaped s)

-- ---- the longest words, numbers and signs

pub word_longest : (text rest : List ℕ) → is_word text ≡ true → Stops goes_on rest → IsLongest text rest
word_longest [] rest word stops = cc
word_longest (byte ∷ bytes) rest word stops = λ more after e f.
    stops more after e (each_rest goes_on bytes more (form_word f byte (bytes ++ more) refl (and-out (is_letter byte) (list_all goes_on bytes) word).0))

pub digits_longest : (byte : ℕ) (bytes rest : List ℕ) → is_ascii_digit byte ≡ true → Stops is_ascii_digit rest → IsLongest (byte ∷ bytes) rest
digits_longest byte bytes rest digit stops more after e f = stops more after e (each_rest is_ascii_digit bytes more (form_digits f byte (bytes ++ more) refl digit))

pub nought_longest : (rest : List ℕ) → IsLongest (48 ∷ []) rest
nought_longest rest more after e f = form_nought f more refl

-- a byte and what stands behind it are no pair
abbrev pub Alone : ℕ → List ℕ → Type 0
Alone byte [] = Unit {0}
Alone byte (second ∷ rest) = is_pair byte second ≡ false

pub single_longest : (byte : ℕ) (rest : List ℕ) → starts byte ≡ false → Alone byte rest → IsLongest (byte ∷ []) rest
single_longest byte rest plain alone [] after e f = refl
single_longest byte rest plain alone (second ∷ more) after e f = absurd (go (form_sign f byte (second ∷ more) refl plain))
  where
    never : is_pair byte second ≡ false
    never = subst (Alone byte) e alone

    go : Signed (byte ∷ second ∷ more) → ⊥
    go g = elim (sign_splits g.s byte (second ∷ more) g.is) [
      | inl none ↦ (let wrong : second ∷ more ≡ [] = none in cc)
      | inr pair ↦ (let same : second ≡ pair.0 = ap head pair.1 in
          clash never (ap (is_pair byte) same ∙ pair.2))
    ]

pub pair_longest : (first second : ℕ) (rest : List ℕ) → starts first ≡ false → IsLongest (first ∷ second ∷ []) rest
pair_longest first second rest plain more after e f = go (form_sign f first (second ∷ more) refl plain)
  where
    go : Signed (first ∷ second ∷ more) → more ≡ []
    go g = elim (sign_splits g.s first (second ∷ more) g.is) [ inl none ↦ (let wrong : second ∷ more ≡ [] = none in cc) | inr pair ↦ ap tail pair.1 ]

-- ---- two longest forms at the front are one

fronts : (xs us ys vs : List ℕ) → xs ++ us ≡ ys ++ vs → ((m : List ℕ) × (ys ≡ xs ++ m) × (us ≡ m ++ vs)) ⊎ ((m : List ℕ) × (xs ≡ ys ++ m) × (vs ≡ m ++ us))
fronts [] us ys vs e = inl (ys, refl, e)
fronts (x ∷ xs) us [] vs e = inr (x ∷ xs, refl, sym e)
fronts (x ∷ xs) us (y ∷ ys) vs e =
    let first : x ≡ y = cc in
    let others : xs ++ us ≡ ys ++ vs = cc in
    elim (fronts xs us ys vs others) [ inl f ↦ inl (f.0, (let p : y ∷ ys ≡ x ∷ (xs ++ f.0) = cc in p), f.2) | inr f ↦ inr (f.0, (let p : x ∷ xs ≡ y ∷ (ys ++ f.0) = cc in p), f.2) ]

pub same_longest : (xs us ys vs : List ℕ) → xs ++ us ≡ ys ++ vs → IsForm xs → IsForm ys → IsLongest xs us → IsLongest ys vs → xs ≡ ys
same_longest xs us ys vs e f g l m = elim (fronts xs us ys vs e) [
  | inl h ↦ (let no_more : h.0 ≡ [] = l h.0 vs h.2 (subst IsForm h.1 g) in sym (h.1 ∙ ap (λ k. xs ++ k) no_more ∙ append-nil xs))
  | inr h ↦ (let no_more : h.0 ≡ [] = m h.0 us h.2 (subst IsForm h.1 f) in h.1 ∙ ap (λ k. ys ++ k) no_more ∙ append-nil ys)
]
