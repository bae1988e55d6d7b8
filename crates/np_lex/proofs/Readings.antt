-- The token that is read at the front of bytes is the one that they begin with.
use Rattle.std.proofs.Common.{◌≡◌, ℕ, suc, pos, ◌+◌, ◌≤◌, inl, inr, List, [], ◌∷◌, ◌++◌, length, take, Option, Some, None, refl, sym, ap, ◌∙◌, subst, arith, append_assoc, length-append}
use Rattle.std.specs.Prelude.{Bool, true, false, ◌≢◌, nat_le, ◌==◌, if◌then◌else◌}
use Rattle.std.specs.Char.{is_ascii_digit}
use Rattle.std.specs.List.{prefix_len}
use Rattle.std.specs.Str.{bytes_eq}
use Rattle.std.proofs.lemmas.Bool.Decides.{nat_tests}
use Rattle.std.proofs.Math.Seq.{take-append_seam}
use Rattle.std.proofs.lemmas.Slice.Eq.{bytes_eq-Decides}
use Rattle.np_syntax.specs.declared.limits.TheConstants.{LARGEST_INTEGER, LONGEST_NAME, LONGEST_STRING}
use Rattle.np_syntax.specs.Numerals.{value}
use Rattle.np_syntax.proofs.Bools.{clash}
use Rattle.np_syntax.proofs.Searching.{found_passes}
use Rattle.np_lex.specs.declared.token.Key.{Key}
use Rattle.np_lex.specs.declared.token.Key.TheVariants as keys
use Rattle.np_lex.specs.declared.token.Sign.{Sign}
use Rattle.np_lex.specs.declared.token.Sign.TheVariants as signs
use Rattle.np_lex.specs.declared.token.TheConstants.{KEYS, SIGNS}
use Rattle.np_lex.specs.declared.token.What.{What}
use Rattle.np_lex.specs.declared.token.What.TheVariants as what
use Rattle.np_lex.specs.Tokens as t
use Rattle.np_lex.specs.Tokens.{is_letter, goes_on, Each, IsForm, IsBody, IsToken, IsLongest, Begins, key_text, sign_text}
use Rattle.np_lex.specs.Lexing.{sized, key_of, word_by, word_kind, number_len, bounded, numbered, number_kind, is_pair, sign_len, sign_of, signed, sign_kind, front, first_token}
use Rattle.np_lex.specs.Strings.{unquoted, limited, string}
use Rattle.np_lex.proofs.Longest.{Run, run_of, head, tail, starts, key_word, name_word, word_form, sign_splits, Signed, form_some, word_longest, digits_longest, nought_longest, Alone, single_longest, pair_longest, same_longest}
use Rattle.np_lex.proofs.Quotes.{body_read, read_body, string_longest}

-- ---- what a token is, by its first byte

-- letters, digits, the double quote, and other bytes
abbrev pub lead : ℕ → ℕ
lead byte = if is_letter byte then 0 else (if is_ascii_digit byte then 1 else (if byte == 34 then 2 else 3))

abbrev pub class : What → ℕ
class (what.Word k) = 0
class (what.Ident text) = 0
class (what.Number n) = 1
class (what.Str text) = 2
class (what.Sign s) = 3
class what.End = 4

key_lead : (k : Key) → lead (head (key_text k)) ≡ 0
key_lead keys.Sites = refl
key_lead k = refl

sign_lead : (s : Sign) → lead (head (sign_text s)) ≡ 3
sign_lead signs.Semi = refl
sign_lead s = refl

letter_lead : (byte : ℕ) → is_letter byte ≡ true → lead byte ≡ 0
letter_lead byte letter = rw letter

digit_lead : (byte : ℕ) → is_ascii_digit byte ≡ true → lead byte ≡ 1
digit_lead byte digit = let no_letter : is_letter byte ≡ false = grind (arith, nat_tests) in rw (no_letter, digit)

other_lead : (byte : ℕ) → is_letter byte ≡ false → is_ascii_digit byte ≡ false → (byte == 34) ≡ false → lead byte ≡ 3
other_lead byte letter digit quote = rw (letter, digit, quote)

pub lead_is : {text : List ℕ} {w : What} → IsToken text w → lead (head text) ≡ class w
lead_is (t.key k) = key_lead k
lead_is (t.name {byte = byte} letter each few other) = letter_lead byte letter
lead_is t.nought = refl
lead_is (t.number {byte = byte} digit other each same small) = digit_lead byte digit
lead_is (t.string body few) = refl
lead_is (t.sign s) = sign_lead s

pub form_of : {text : List ℕ} {w : What} → IsToken text w → IsForm text
form_of (t.key k) = word_form (key_text k) (key_word k)
form_of (t.name letter each few other) = t.word letter each
form_of t.nought = t.nought
form_of (t.number digit other each same small) = t.number digit other each
form_of (t.string body few) = t.string body
form_of (t.sign s) = t.sign s

-- ---- keywords and signs are found by their texts

key_back : (k : Key) → key_of (key_text k) ≡ Some k
key_back keys.Sites = refl
key_back k = refl

key_is : (text : List ℕ) (k : Key) → key_of text ≡ Some k → key_text k ≡ text
key_is text k e = (bytes_eq-Decides (key_text k) text).0 (found_passes (λ j. bytes_eq (key_text j) text) KEYS k e)

sign_back : (s : Sign) → sign_of (sign_text s) ≡ Some s
sign_back signs.Semi = refl
sign_back s = refl

sign_is : (text : List ℕ) (s : Sign) → sign_of text ≡ Some s → sign_text s ≡ text
sign_is text s e = (bytes_eq-Decides (sign_text s) text).0 (found_passes (λ r. bytes_eq (sign_text r) text) SIGNS s e)

-- ---- the kind of a text

few_test : (length limit : ℕ) → length ≤ limit → nat_le length limit ≡ true
few_test length limit few = grind (arith, nat_tests)

few_is : (length limit : ℕ) → nat_le length limit ≡ true → length ≤ limit
few_is length limit few = grind (arith, nat_tests)

no_key : (text : List ℕ) → ((k : Key) → key_text k ≢ text) → key_of text ≡ None
no_key text none = go (key_of text) refl
  where
    go : (o : Option Key) → key_of text ≡ o → key_of text ≡ None
    go None e = e
    go (Some k) e = absurd (none k (key_is text k e))

key_none : (text : List ℕ) → key_of text ≡ None → (k : Key) → key_text k ≢ text
key_none text none k e = let some : key_of text ≡ Some k = ap key_of (sym e) ∙ key_back k in cc

word_only : {text : List ℕ} {w : What} → IsToken text w → lead (head text) ≡ 0 → word_kind text ≡ Some w
unfolding word_kind
word_only (t.key k) h = ap (λ o. word_by o (key_text k)) (key_back k)
word_only (t.name {byte = byte} {bytes = bytes} letter each few other) h =
    ap (λ o. word_by o (byte ∷ bytes)) (no_key (byte ∷ bytes) other)
    ∙ ap (λ b. if b then Some (what.Ident (byte ∷ bytes)) else None) (few_test (length (byte ∷ bytes)) LONGEST_NAME few)
word_only p h = let k = lead_is p in absurd (omega arith)

word_means : (byte : ℕ) (bytes : List ℕ) (w : What) → is_letter byte ≡ true → Each goes_on bytes → word_kind (byte ∷ bytes) ≡ Some w → IsToken (byte ∷ bytes) w
unfolding word_kind
word_means byte bytes w letter each e = go (key_of (byte ∷ bytes)) refl e
  where
    named : (few : Bool) → nat_le (length (byte ∷ bytes)) LONGEST_NAME ≡ few → key_of (byte ∷ bytes) ≡ None → (if few then Some (what.Ident (byte ∷ bytes)) else None) ≡ Some w → IsToken (byte ∷ bytes) w
    named true few none k = let same : what.Ident (byte ∷ bytes) ≡ w = cc in
        subst (IsToken (byte ∷ bytes)) same (t.name letter each (few_is (length (byte ∷ bytes)) LONGEST_NAME few) (key_none (byte ∷ bytes) none))
    named false few none k = cc

    go : (o : Option Key) → key_of (byte ∷ bytes) ≡ o → word_by o (byte ∷ bytes) ≡ Some w → IsToken (byte ∷ bytes) w
    go (Some k) h m = let same : what.Word k ≡ w = cc in subst (λ l. IsToken l w) (key_is (byte ∷ bytes) k h) (subst (IsToken (key_text k)) same (t.key k))
    go None h m = named (nat_le (length (byte ∷ bytes)) LONGEST_NAME) refl h m

bounded_says : (text : List ℕ) → value text ≤ LARGEST_INTEGER → bounded text ≡ Some (value text)
bounded_says text small = ap (λ b. if b then Some (value text) else None) (few_test (value text) LARGEST_INTEGER small)

number_only : {text : List ℕ} {w : What} → IsToken text w → lead (head text) ≡ 1 → number_kind text ≡ Some w
unfolding number_kind
number_only t.nought h = ap numbered (bounded_says (48 ∷ []) (omega arith))
number_only (t.number {byte = byte} {bytes = bytes} digit other each same small) h =
    ap numbered (bounded_says (byte ∷ bytes) (rw same small)) ∙ ap (λ v. Some (what.Number (pos v))) same
number_only p h = let k = lead_is p in absurd (omega arith)

number_is : (text : List ℕ) (w : What) → number_kind text ≡ Some w → (value text ≤ LARGEST_INTEGER) × (what.Number (pos (value text)) ≡ w)
unfolding number_kind
number_is text w e = go (nat_le (value text) LARGEST_INTEGER) refl e
  where
    go : (small : Bool) → nat_le (value text) LARGEST_INTEGER ≡ small → numbered (if small then Some (value text) else None) ≡ Some w
        → (value text ≤ LARGEST_INTEGER) × (what.Number (pos (value text)) ≡ w)
    go true s k = (few_is (value text) LARGEST_INTEGER s, cc)
    go false s k = cc

number_means : (byte : ℕ) (bytes : List ℕ) (w : What) → is_ascii_digit byte ≡ true → byte ≢ 48 → Each is_ascii_digit bytes → number_kind (byte ∷ bytes) ≡ Some w → IsToken (byte ∷ bytes) w
number_means byte bytes w digit other each e = let h = number_is (byte ∷ bytes) w e in subst (IsToken (byte ∷ bytes)) h.1 (t.number digit other each refl h.0)

nought_means : (w : What) → number_kind (48 ∷ []) ≡ Some w → IsToken (48 ∷ []) w
nought_means w e = let h = number_is (48 ∷ []) w e in subst (IsToken (48 ∷ [])) h.1 t.nought

sign_only : {text : List ℕ} {w : What} → IsToken text w → lead (head text) ≡ 3 → sign_kind text ≡ Some w
unfolding sign_kind
sign_only (t.sign s) h = ap signed (sign_back s)
sign_only p h = let k = lead_is p in absurd (omega arith)

sign_token : {text : List ℕ} {w : What} → IsToken text w → lead (head text) ≡ 3 → Signed text
sign_token (t.sign s) h = record { s = s; is = refl }
sign_token p h = let k = lead_is p in absurd (omega arith)

sign_means : (text : List ℕ) (w : What) → sign_kind text ≡ Some w → IsToken text w
unfolding sign_kind
sign_means text w e = go (sign_of text) refl e
  where
    go : (o : Option Sign) → sign_of text ≡ o → signed o ≡ Some w → IsToken text w
    go None h k = cc
    go (Some s) h k = let same : what.Sign s ≡ w = cc in subst (λ l. IsToken l w) (sign_is text s h) (subst (IsToken (sign_text s)) same (t.sign s))

-- ---- what is read is what the bytes begin with

pub record Says (bytes : List ℕ) (first : Option (ℕ × What)) : Type 0 where
  pub found : (len : ℕ) (w : What) → first ≡ Some (len, w) → Begins bytes len w
  pub only : (len : ℕ) (w : What) → Begins bytes len w → first ≡ Some (len, w)

-- the longest form at the front
record Front (byte : ℕ) (bytes : List ℕ) (len : ℕ) : Type 0 where
  inner : List ℕ
  rest : List ℕ
  is : bytes ≡ inner ++ rest
  counts : suc (length inner) ≡ len
  form : IsForm (byte ∷ inner)
  longest : IsLongest (byte ∷ inner) rest

same_first : (a b : ℕ × What) → Some a ≡ Some b → (a.0 ≡ b.0) × (a.1 ≡ b.1)
same_first a b e = let same : a ≡ b = cc in (ap (λ (p : ℕ × What). p.0) same, ap (λ (p : ℕ × What). p.1) same)

sized_is : (len : ℕ) (o : Option What) (n : ℕ) (w : What) → sized len o ≡ Some (n, w) → (len ≡ n) × (o ≡ Some w)
sized_is len None n w e = cc
sized_is len (Some v) n w e = let same = same_first (len, v) (n, w) e in (same.0, ap (λ v. Some v) same.1)

front_says : {byte : ℕ} {bytes : List ℕ} {len : ℕ} (f : Front byte bytes len) (kind : List ℕ → Option What)
    → ((w : What) → kind (byte ∷ f.inner) ≡ Some w → IsToken (byte ∷ f.inner) w) → ((w : What) → IsToken (byte ∷ f.inner) w → kind (byte ∷ f.inner) ≡ Some w)
    → Says (byte ∷ bytes) (front kind len (byte ∷ bytes))
front_says {byte = byte} {bytes = bytes} {len = len} f kind means only = record {
  found = λ n w e. (let h = sized_is len (kind (byte ∷ f.inner)) n w (sym reads ∙ e) in
      record { text = byte ∷ f.inner; rest = f.rest; is = whole; counts = f.counts ∙ h.0; means = means w h.1; longest = f.longest });
  only = λ n w g. (let same : byte ∷ f.inner ≡ g.text = same_longest (byte ∷ f.inner) f.rest g.text g.rest (sym whole ∙ g.is) f.form (form_of g.means) f.longest g.longest in
      let size : len ≡ n = sym f.counts ∙ ap length same ∙ g.counts in
      reads ∙ ap (sized len) (only w (subst (λ l. IsToken l w) (sym same) g.means)) ∙ ap (λ k. Some (k, w)) size);
}
  where
    whole : byte ∷ bytes ≡ (byte ∷ f.inner) ++ f.rest
    whole = ap (λ l. byte ∷ l) f.is

    reads : front kind len (byte ∷ bytes) ≡ sized len (kind (byte ∷ f.inner))
    reads = ap (λ l. sized len (kind l)) (ap (λ n. take n (byte ∷ bytes)) (sym f.counts) ∙ ap (take (length (byte ∷ f.inner))) whole ∙ take-append_seam (byte ∷ f.inner) f.rest)

word_says : (byte : ℕ) (bytes : List ℕ) → is_letter byte ≡ true → Says (byte ∷ bytes) (front word_kind (prefix_len goes_on (byte ∷ bytes)) (byte ∷ bytes))
word_says byte bytes letter = front_says f word_kind (λ w e. word_means byte r.text w letter r.each e) (λ w p. word_only p (letter_lead byte letter))
  where
    r : Run goes_on bytes
    r = run_of goes_on bytes

    f : Front byte bytes (prefix_len goes_on (byte ∷ bytes))
    f = record {
      inner = r.text;
      rest = r.rest;
      is = r.is;
      counts = rw letter (let c : length r.text ≡ prefix_len goes_on bytes = r.counts in omega arith);
      form = t.word letter r.each;
      longest = word_longest (byte ∷ r.text) r.rest (name_word byte r.text letter r.each) r.stops;
    }

number_says : (byte : ℕ) (bytes : List ℕ) → is_ascii_digit byte ≡ true → (byte == 48) ≡ false → Says (byte ∷ bytes) (front number_kind (number_len (byte ∷ bytes)) (byte ∷ bytes))
number_says byte bytes digit differs = front_says f number_kind (λ w e. number_means byte r.text w digit other r.each e) (λ w p. number_only p (digit_lead byte digit))
  where
    other : byte ≢ 48
    other e = grind (arith, nat_tests)

    r : Run is_ascii_digit bytes
    r = run_of is_ascii_digit bytes

    f : Front byte bytes (number_len (byte ∷ bytes))
    f = record {
      inner = r.text;
      rest = r.rest;
      is = r.is;
      counts = rw (differs, digit) (let c : length r.text ≡ prefix_len is_ascii_digit bytes = r.counts in omega arith);
      form = t.number digit other r.each;
      longest = digits_longest byte r.text r.rest digit r.stops;
    }

nought_says : (bytes : List ℕ) → Says (48 ∷ bytes) (front number_kind 1 (48 ∷ bytes))
nought_says bytes = front_says f number_kind nought_means (λ w p. number_only p refl)
  where
    f : Front 48 bytes 1
    f = record { inner = []; rest = bytes; is = refl; counts = refl; form = t.nought; longest = nought_longest bytes }

-- ---- signs

pair_form : (first second : ℕ) → is_pair first second ≡ true → IsForm (first ∷ second ∷ [])
pair_form first second pair = go (first == 45) refl
  where
    same_pair : (a b : ℕ) → first ≡ a → second ≡ b → IsForm (a ∷ b ∷ []) → IsForm (first ∷ second ∷ [])
    same_pair a b one two form = rw (one, two) form

    go : (test : Bool) → (first == 45) ≡ test → IsForm (first ∷ second ∷ [])
    go true e = same_pair 45 62 (grind (arith, nat_tests)) (grind (arith, nat_tests)) (t.sign signs.Arrow)
    go false e = same_pair 61 61 (grind (arith, nat_tests)) (grind (arith, nat_tests)) (t.sign signs.Same)

other_starts : (byte : ℕ) → is_letter byte ≡ false → is_ascii_digit byte ≡ false → (byte == 34) ≡ false → starts byte ≡ false
other_starts byte letter digit quote = rw (letter, digit, quote)

pair_says : (first second : ℕ) (rest : List ℕ) → starts first ≡ false → lead first ≡ 3 → is_pair first second ≡ true → Says (first ∷ second ∷ rest) (front sign_kind 2 (first ∷ second ∷ rest))
pair_says first second rest plain leads pair = front_says f sign_kind (sign_means (first ∷ second ∷ [])) (λ w p. sign_only p leads)
  where
    f : Front first (second ∷ rest) 2
    f = record { inner = second ∷ []; rest = rest; is = refl; counts = refl; form = pair_form first second pair; longest = pair_longest first second rest plain }

single_says : (byte : ℕ) (rest : List ℕ) → starts byte ≡ false → lead byte ≡ 3 → Alone byte rest → Says (byte ∷ rest) (front sign_kind 1 (byte ∷ rest))
single_says byte rest plain leads alone = record {
  found = λ n w e. (let h = sized_is 1 (sign_kind (byte ∷ [])) n w e in
      record { text = byte ∷ []; rest = rest; is = refl; counts = h.0; means = sign_means (byte ∷ []) w h.1; longest = single_longest byte rest plain alone });
  only = λ n w g. (let text : g.text ≡ byte ∷ [] = one g.text g.rest g.means g.is in
      let size : 1 ≡ n = sym (ap length text) ∙ g.counts in
      ap (sized 1) (sign_only (subst (λ l. IsToken l w) text g.means) leads) ∙ ap (λ k. Some (k, w)) size);
}
  where
    pair_none : (second : ℕ) (after : List ℕ) → rest ≡ second ∷ after → is_pair byte second ≡ true → ⊥
    pair_none second after e pair = clash (subst (Alone byte) e alone) pair

    one : (text after : List ℕ) {w : What} → IsToken text w → byte ∷ rest ≡ text ++ after → text ≡ byte ∷ []
    one [] after p e = absurd (form_some (form_of p) refl)
    one (first ∷ inner) after p e =
        let same : byte ≡ first = ap head e in
        let others : rest ≡ inner ++ after = ap tail e in
        let g = sign_token p (ap lead (sym same) ∙ leads) in
        elim (sign_splits g.s first inner g.is) [
          | inl none ↦ ap (λ l. first ∷ l) none ∙ ap (λ b. b ∷ []) (sym same)
          | inr pair ↦ absurd (pair_none pair.0 after (others ∙ ap (λ l. l ++ after) pair.1) (ap (λ b. is_pair b pair.0) same ∙ pair.2))
        ]

other_says : (byte : ℕ) (bytes : List ℕ) → is_letter byte ≡ false → is_ascii_digit byte ≡ false → (byte == 34) ≡ false → Says (byte ∷ bytes) (front sign_kind (sign_len (byte ∷ bytes)) (byte ∷ bytes))
other_says byte [] letter digit quote = single_says byte [] (other_starts byte letter digit quote) (other_lead byte letter digit quote) tt
other_says byte (second ∷ rest) letter digit quote = go (is_pair byte second) refl
  where
    go : (test : Bool) → is_pair byte second ≡ test → Says (byte ∷ second ∷ rest) (front sign_kind (if test then 2 else 1) (byte ∷ second ∷ rest))
    go true e = pair_says byte second rest (other_starts byte letter digit quote) (other_lead byte letter digit quote) e
    go false e = single_says byte (second ∷ rest) (other_starts byte letter digit quote) (other_lead byte letter digit quote) e

-- ---- strings

abbrev limited_by : Bool → ℕ × List ℕ → Option (ℕ × What)
limited_by few read = if few then Some (1 + read.0, what.Str read.1) else None

limited_is : (o : Option (ℕ × List ℕ)) (n : ℕ) (w : What) → limited o ≡ Some (n, w)
    → (read : ℕ × List ℕ) × (o ≡ Some read) × (length read.1 ≤ LONGEST_STRING) × (1 + read.0 ≡ n) × (what.Str read.1 ≡ w)
limited_is None n w e = cc
limited_is (Some read) n w e = go (nat_le (length read.1) LONGEST_STRING) refl e
  where
    go : (few : Bool) → nat_le (length read.1) LONGEST_STRING ≡ few → limited_by few read ≡ Some (n, w)
        → (r : ℕ × List ℕ) × (Some read ≡ Some r) × (length r.1 ≤ LONGEST_STRING) × (1 + r.0 ≡ n) × (what.Str r.1 ≡ w)
    go true few k = let same = same_first (1 + read.0, what.Str read.1) (n, w) k in (read, refl, few_is (length read.1) LONGEST_STRING few, same.0, same.1)
    go false few k = cc

limited_says : (n : ℕ) (text : List ℕ) → length text ≤ LONGEST_STRING → limited (Some (n, text)) ≡ Some (1 + n, what.Str text)
limited_says n text few = ap (λ b. limited_by b (n, text)) (few_test (length text) LONGEST_STRING few)

string_says : (rest : List ℕ) → Says (34 ∷ rest) (string rest)
unfolding string
string_says rest = record {
  found = λ n w e. (let h = limited_is (unquoted false rest) n w e in
      let r = read_body false rest h.0.0 h.0.1 h.1 in
      record {
        text = 34 ∷ (r.bytes ++ 34 ∷ []);
        rest = r.after;
        is = ap (λ l. 34 ∷ l) (r.is ∙ sym (append_assoc r.bytes (34 ∷ []) r.after));
        counts = (let c : suc (length r.bytes) ≡ h.0.0 = r.counts in let s : 1 + h.0.0 ≡ n = h.3 in omega (arith, length-append r.bytes (34 ∷ [])));
        means = subst (IsToken (34 ∷ (r.bytes ++ 34 ∷ []))) h.4 (t.string r.body h.2);
        longest = string_longest r.after r.body;
      });
  only = λ n w g. reads n g.rest g.means g.is g.counts;
}
  where
    string_token : {w : What} (n : ℕ) (after bytes text : List ℕ) → IsBody bytes text → length text ≤ LONGEST_STRING → 34 ∷ rest ≡ (34 ∷ (bytes ++ 34 ∷ [])) ++ after → length (34 ∷ (bytes ++ 34 ∷ [])) ≡ n
        → what.Str text ≡ w → limited (unquoted false rest) ≡ Some (n, w)
    string_token n after bytes text body few e counts same =
        let inner : rest ≡ bytes ++ 34 ∷ after = ap tail e ∙ append_assoc bytes (34 ∷ []) after in
        let size : 1 + suc (length bytes) ≡ n = omega (arith, length-append bytes (34 ∷ [])) in
        ap (λ l. limited (unquoted false l)) inner ∙ ap limited (body_read body after) ∙ limited_says (suc (length bytes)) text few ∙ ap (λ k. Some (k, what.Str text)) size ∙ ap (λ v. Some (n, v)) same

    begun : (text after : List ℕ) → 34 ∷ rest ≡ text ++ after → IsForm text → lead (head text) ≡ 2
    begun [] after e f = absurd (form_some f refl)
    begun (byte ∷ text) after e f = ap lead (sym (ap head e))

    by_lead : {text : List ℕ} {w : What} (n : ℕ) (after : List ℕ) → IsToken text w → lead (head text) ≡ 2 → 34 ∷ rest ≡ text ++ after → length text ≡ n → limited (unquoted false rest) ≡ Some (n, w)
    by_lead n after (t.string {bytes = bytes} {text = text} body few) leads e counts = string_token n after bytes text body few e counts refl
    by_lead n after p leads e counts = let k = lead_is p in absurd (omega arith)

    reads : {text : List ℕ} {w : What} (n : ℕ) (after : List ℕ) → IsToken text w → 34 ∷ rest ≡ text ++ after → length text ≡ n → limited (unquoted false rest) ≡ Some (n, w)
    reads {text = text} n after p e counts = by_lead n after p (begun text after e (form_of p)) e counts

-- ---- the front of any bytes

nothing_says : Says [] None
nothing_says = record { found = λ n w e. cc; only = λ n w g. absurd (none g.text g.rest (form_of g.means) g.is) }
  where
    none : (text rest : List ℕ) → IsForm text → (let e : List ℕ = [] in e) ≡ text ++ rest → ⊥
    none [] rest f e = form_some f refl
    none (byte ∷ text) rest f e = cc

second : {p q : Bool} (a b c : Option (ℕ × What)) → p ≡ false → q ≡ true → (if p then a else (if q then b else c)) ≡ b
second a b c e f = rw (e, f)

third : {p q r : Bool} (a b c d : Option (ℕ × What)) → p ≡ false → q ≡ false → r ≡ true → (if p then a else (if q then b else (if r then c else d))) ≡ c
third a b c d e f g = rw (e, f, g)

fourth : {p q r : Bool} (a b c d : Option (ℕ × What)) → p ≡ false → q ≡ false → r ≡ false → (if p then a else (if q then b else (if r then c else d))) ≡ d
fourth a b c d e f g = rw (e, f, g)

pub first_says : (bytes : List ℕ) → Says bytes (first_token bytes)
unfolding first_token
first_says [] = nothing_says
first_says (byte ∷ bytes) = quote (byte == 34) refl
  where
    number : (test : Bool) → (byte == 48) ≡ test → is_ascii_digit byte ≡ true → Says (byte ∷ bytes) (front number_kind (number_len (byte ∷ bytes)) (byte ∷ bytes))
    number true e digit = let same : byte ≡ 48 = grind (arith, nat_tests) in subst (λ b. Says (b ∷ bytes) (front number_kind (number_len (b ∷ bytes)) (b ∷ bytes))) (sym same) (nought_says bytes)
    number false e digit = number_says byte bytes digit e

    digit : (test : Bool) → is_ascii_digit byte ≡ test → is_letter byte ≡ false → (byte == 34) ≡ false → Says (byte ∷ bytes) (first_token (byte ∷ bytes))
    digit true e letter q = subst (Says (byte ∷ bytes)) (sym (third _ _ _ _ q letter e)) (number (byte == 48) refl e)
    digit false e letter q = subst (Says (byte ∷ bytes)) (sym (fourth _ _ _ _ q letter e)) (other_says byte bytes letter e q)

    letter : (test : Bool) → is_letter byte ≡ test → (byte == 34) ≡ false → Says (byte ∷ bytes) (first_token (byte ∷ bytes))
    letter true e q = subst (Says (byte ∷ bytes)) (sym (second _ _ _ q e)) (word_says byte bytes e)
    letter false e q = digit (is_ascii_digit byte) refl e q

    quote : (test : Bool) → (byte == 34) ≡ test → Says (byte ∷ bytes) (first_token (byte ∷ bytes))
    quote true e = let same : byte ≡ 34 = grind (arith, nat_tests) in rw e (subst (λ b. Says (b ∷ bytes) (string bytes)) (sym same) (string_says bytes))
    quote false e = letter (is_letter byte) refl e
