-- A string is read up to its first quote that is no escape's.
use Rattle.std.proofs.Common.{◌≡◌, ℕ, suc, ◌+◌, List, [], ◌∷◌, ◌++◌, length, Option, Some, None, inl, inr, refl, sym, ap, ◌∙◌, subst, arith, append_assoc, length-append}
use Rattle.std.specs.Prelude.{Bool, true, false, ◌==◌}
use Rattle.std.proofs.lemmas.Bool.Decides.{nat_tests}
use Rattle.np_syntax.specs.Escapes.{escapes, IsEscapeIn, IsEscape}
use Rattle.np_lex.specs.declared.strings.Part.{Part}
use Rattle.np_lex.specs.declared.strings.Part.TheVariants as part
use Rattle.np_lex.specs.Tokens as t
use Rattle.np_lex.specs.Tokens.{is_plain, IsBody, IsLongest}
use Rattle.np_lex.specs.Strings.{meant_by, part_of, behind, unquoted}
use Rattle.np_lex.proofs.Longest.{form_string}

-- ---- what a string writes is read

plain_part : (byte : ℕ) → is_plain byte ≡ true → part_of false byte ≡ part.Byte byte
plain_part byte plain =
    let no_quote : (byte == 34) ≡ false = grind (arith, nat_tests) in
    let no_backslash : (byte == 92) ≡ false = grind (arith, nat_tests) in
    rw (plain, no_quote, no_backslash)

abbrev pub step : Part → List ℕ → Option (ℕ × List ℕ)
step part.Close rest = Some (1, [])
step part.Backslash rest = behind 1 [] (unquoted true rest)
step (part.Byte b) rest = behind 1 (b ∷ []) (unquoted false rest)
step part.Wrong rest = None

pub one_step : (escaped : Bool) (byte : ℕ) (rest : List ℕ) → unquoted escaped (byte ∷ rest) ≡ step (part_of escaped byte) rest
one_step escaped byte rest = go (part_of escaped byte)
  where
    go : (p : Part) → elim p [ part.Close ↦ Some (1, []) | part.Backslash ↦ behind 1 [] (unquoted true rest) | part.Byte b ↦ behind 1 (b ∷ []) (unquoted false rest) | part.Wrong ↦ None ] ≡ step p rest
    go part.Close = refl
    go part.Backslash = refl
    go (part.Byte b) = refl
    go part.Wrong = refl

-- one byte more, that wrote this
read_byte : (b : ℕ) (rest : List ℕ) (n : ℕ) (text : List ℕ) → unquoted false rest ≡ Some (n, text) → behind 1 (b ∷ []) (unquoted false rest) ≡ Some (suc n, b ∷ text)
read_byte b rest n text e = rw e (ap (λ k. Some (k, b ∷ text)) (omega arith))

read_escape : (byte b : ℕ) (rest : List ℕ) (n : ℕ) (text : List ℕ) → part_of true byte ≡ part.Byte b → unquoted false rest ≡ Some (n, text) → unquoted false (92 ∷ byte ∷ rest) ≡ Some (suc (suc n), b ∷ text)
read_escape byte b rest n text p e =
    let inner : unquoted true (byte ∷ rest) ≡ Some (suc n, b ∷ text) = one_step true byte rest ∙ ap (λ q. step q rest) p ∙ read_byte b rest n text e in
    one_step false 92 (byte ∷ rest) ∙ ap (behind 1 []) inner ∙ ap (λ k. Some (k, b ∷ text)) (omega arith)

escape_part : (byte letter : ℕ) → IsEscape byte letter → part_of true letter ≡ part.Byte byte
escape_part byte letter (inl e) = rw (e.0, e.1) refl
escape_part byte letter (inr (inl e)) = rw (e.0, e.1) refl
escape_part byte letter (inr (inr (inl e))) = rw (e.0, e.1) refl
escape_part byte letter (inr (inr (inr e))) = absurd e

pub body_read : {bytes text : List ℕ} → IsBody bytes text → (rest : List ℕ) → unquoted false (bytes ++ 34 ∷ rest) ≡ Some (suc (length bytes), text)
body_read t.nothing rest = refl
body_read (t.plain {byte = byte} {bytes = bytes} {text = text} plain body) rest =
    one_step false byte (bytes ++ 34 ∷ rest) ∙ ap (λ q. step q (bytes ++ 34 ∷ rest)) (plain_part byte plain) ∙ read_byte byte (bytes ++ 34 ∷ rest) (suc (length bytes)) text (body_read body rest)
body_read (t.escape {byte = byte} {letter = letter} {bytes = bytes} {text = text} is body) rest =
    read_escape letter byte (bytes ++ 34 ∷ rest) (suc (length bytes)) text (escape_part byte letter is) (body_read body rest)

-- ---- what is read is what a string writes

abbrev opened : Bool → List ℕ → List ℕ
opened true bytes = 92 ∷ bytes
opened false bytes = bytes

-- what the byte is, in the words of the definition
abbrev PartSays : Bool → ℕ → Part → Type 0
PartSays escaped byte part.Close = (escaped ≡ false) × (byte ≡ 34)
PartSays escaped byte part.Backslash = (escaped ≡ false) × (byte ≡ 92)
PartSays escaped byte (part.Byte b) = (bytes text : List ℕ) → IsBody bytes text → IsBody (opened escaped (byte ∷ bytes)) (b ∷ text)
PartSays escaped byte part.Wrong = Unit {0}

plain_says : (byte : ℕ) → PartSays false byte (part_of false byte)
plain_says byte = quote (byte == 34) refl
  where
    plain : (test : Bool) → is_plain byte ≡ test → (byte == 34) ≡ false → (byte == 92) ≡ false → PartSays false byte (part_of false byte)
    plain true e q s = subst (PartSays false byte) (sym (plain_part byte e)) (λ bytes text body. t.plain e body)
    plain false e q s = rw (e, q, s) tt

    slash : (test : Bool) → (byte == 92) ≡ test → (byte == 34) ≡ false → PartSays false byte (part_of false byte)
    slash true e q = let same : byte ≡ 92 = grind (arith, nat_tests) in rw (q, e) (refl, same)
    slash false e q = plain (is_plain byte) refl q e

    quote : (test : Bool) → (byte == 34) ≡ test → PartSays false byte (part_of false byte)
    quote true e = let same : byte ≡ 34 = grind (arith, nat_tests) in rw e (refl, same)
    quote false e = slash (byte == 92) refl e

escape_says : (table : List (ℕ × ℕ)) → ((byte letter : ℕ) → IsEscapeIn table byte letter → IsEscape byte letter) → (letter : ℕ) → PartSays true letter (meant_by table letter)
escape_says [] all letter = tt
escape_says (escape ∷ others) all letter = go (letter == escape.1) refl (escape_says others (λ byte letter is. all byte letter (inr is)) letter)
  where
    go : (test : Bool) → (letter == escape.1) ≡ test → PartSays true letter (meant_by others letter) → PartSays true letter (meant_by (escape ∷ others) letter)
    go true e more = let same : letter ≡ escape.1 = grind (arith, nat_tests) in rw e (λ bytes text body. t.escape (all escape.0 letter (inl (refl, same))) body)
    go false e more = rw e more

part_says : (escaped : Bool) (byte : ℕ) → PartSays escaped byte (part_of escaped byte)
part_says true byte = escape_says escapes (λ byte letter is. is) byte
part_says false byte = plain_says byte

-- a string's bytes up to its closing quote
pub record Read (escaped : Bool) (rest : List ℕ) (n : ℕ) (text : List ℕ) : Type 0 where
  pub bytes : List ℕ
  pub after : List ℕ
  pub is : rest ≡ bytes ++ 34 ∷ after
  pub body : IsBody (opened escaped bytes) text
  pub counts : suc (length bytes) ≡ n

-- the same length and the same text
same_read : (a b : ℕ × List ℕ) → Some a ≡ Some b → (a.0 ≡ b.0) × (a.1 ≡ b.1)
same_read a b e = let same : a ≡ b = cc in (ap (λ (p : ℕ × List ℕ). p.0) same, ap (λ (p : ℕ × List ℕ). p.1) same)

behind_is : (len : ℕ) (front : List ℕ) (o : Option (ℕ × List ℕ)) (n : ℕ) (text : List ℕ) → behind len front o ≡ Some (n, text)
    → (more : ℕ × List ℕ) × (o ≡ Some more) × (len + more.0 ≡ n) × (front ++ more.1 ≡ text)
behind_is len front None n text e = cc
behind_is len front (Some more) n text e =
    let same = same_read (len + more.0, front ++ more.1) (n, text) e in
    (more, refl, same.0, same.1)

pub read_body : (escaped : Bool) (rest : List ℕ) (n : ℕ) (text : List ℕ) → unquoted escaped rest ≡ Some (n, text) → Read escaped rest n text
read_body escaped [] n text e = cc
read_body escaped (byte ∷ rest) n text e = go (part_of escaped byte) (part_says escaped byte) (read_body true rest) (read_body false rest) (sym (one_step escaped byte rest) ∙ e)
  where
    go : (p : Part) → PartSays escaped byte p → ((n : ℕ) (text : List ℕ) → unquoted true rest ≡ Some (n, text) → Read true rest n text)
        → ((n : ℕ) (text : List ℕ) → unquoted false rest ≡ Some (n, text) → Read false rest n text) → step p rest ≡ Some (n, text) → Read escaped (byte ∷ rest) n text
    go part.Close says behind_slash plainly k =
        let same = same_read (1, []) (n, text) k in
        let one : 1 ≡ n = same.0 in
        let none : [] ≡ text = same.1 in
        let body : IsBody (opened false []) text = subst (IsBody []) none t.nothing in
        record {
          bytes = [];
          after = rest;
          is = ap (λ b. b ∷ rest) says.1;
          body = subst (λ b. IsBody (opened b []) text) (sym says.0) body;
          counts = omega arith;
        }
    go part.Backslash says behind_slash plainly k =
        let h = behind_is 1 [] (unquoted true rest) n text k in
        let r = behind_slash h.0.0 h.0.1 h.1 in
        let body : IsBody (opened false (byte ∷ r.bytes)) h.0.1 = subst (λ b. IsBody (b ∷ r.bytes) h.0.1) (sym says.1) r.body in
        record {
          bytes = byte ∷ r.bytes;
          after = r.after;
          is = ap (λ l. byte ∷ l) r.is;
          body = subst (IsBody (opened escaped (byte ∷ r.bytes))) h.3 (subst (λ b. IsBody (opened b (byte ∷ r.bytes)) h.0.1) (sym says.0) body);
          counts = (let c : suc (length r.bytes) ≡ h.0.0 = r.counts in let s : 1 + h.0.0 ≡ n = h.2 in omega arith);
        }
    go (part.Byte b) says behind_slash plainly k =
        let h = behind_is 1 (b ∷ []) (unquoted false rest) n text k in
        let r = plainly h.0.0 h.0.1 h.1 in
        record {
          bytes = byte ∷ r.bytes;
          after = r.after;
          is = ap (λ l. byte ∷ l) r.is;
          body = subst (IsBody (opened escaped (byte ∷ r.bytes))) h.3 (says r.bytes h.0.1 r.body);
          counts = (let c : suc (length r.bytes) ≡ h.0.0 = r.counts in let s : 1 + h.0.0 ≡ n = h.2 in omega arith);
        }
    go part.Wrong says behind_slash plainly k = cc

-- ---- strings are longest

no_length : (l : List ℕ) → length l ≡ 0 → l ≡ []
no_length [] e = refl
no_length (x ∷ l) e = absurd (omega arith)

pub string_longest : {bytes text : List ℕ} (rest : List ℕ) → IsBody bytes text → IsLongest (34 ∷ (bytes ++ 34 ∷ [])) rest
string_longest {bytes = bytes} {text = text} rest body more after e f =
    let q = form_string f ((bytes ++ 34 ∷ []) ++ more) refl in
    let same : q.bytes ++ 34 ∷ [] ≡ bytes ++ 34 ∷ more = q.is ∙ append_assoc bytes (34 ∷ []) more in
    let reads = same_read (suc (length q.bytes), q.text) (suc (length bytes), text) (sym (body_read q.body []) ∙ ap (unquoted false) same ∙ body_read body more) in
    let counts : suc (length q.bytes) ≡ suc (length bytes) = reads.0 in
    let lengths : length (q.bytes ++ 34 ∷ []) ≡ length (bytes ++ 34 ∷ more) = ap length same in
    no_length more (omega (arith, length-append q.bytes (34 ∷ []), length-append bytes (34 ∷ more)))
