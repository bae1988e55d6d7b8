-- A text is one token at most, and bytes are one list of tokens at most, or have one first place where none begins.
use Rattle.std.proofs.Common.{◌≡◌, ℕ, ◌+◌, ◌≤◌, List, [], ◌∷◌, ◌++◌, length, drop, Option, Some, refl, sym, ap, subst, arith, length-drop}
use Rattle.np_lex.specs.declared.token.Token.{Token}
use Rattle.np_lex.specs.declared.token.What.{What}
use Rattle.np_lex.specs.declared.token.What.TheVariants as what
use Rattle.np_lex.specs.Tokens as t
use Rattle.np_lex.specs.Tokens.{Lexes, Stuck, Begins, IsToken, IsForm, AreTokens, skip_len, token}
use Rattle.np_lex.specs.Lexing.{first_token}
use Rattle.np_lex.proofs.Longest.{form_some}
use Rattle.np_lex.proofs.Readings.{first_says, form_of}
use Rattle.np_lex.proofs.Steps.{begins_some, begins_within}

-- ---- one token

one_first : (m n : ℕ) (a b : What) (o : Option (ℕ × What)) → o ≡ Some (m, a) → o ≡ Some (n, b) → (m ≡ n) × (a ≡ b)
one_first m n a b o e f = let p : ℕ × What = (m, a) in let q : ℕ × What = (n, b) in let same : p ≡ q = cc in (ap (λ (p : ℕ × What). p.0) same, ap (λ (p : ℕ × What). p.1) same)

-- bytes begin with one token at most
pub begins_once : {bytes : List ℕ} {m n : ℕ} {a b : What} → Begins bytes m a → Begins bytes n b → (m ≡ n) × (a ≡ b)
begins_once {bytes = bytes} {m = m} {n = n} {a = a} {b = b} p q = let s = first_says bytes in one_first m n a b (first_token bytes) (s.only m a p) (s.only n b q)

pub nothing_begins : {len : ℕ} {w : What} → Begins [] len w → ⊥
nothing_begins g = none g.text g.rest (form_of g.means) g.is
  where
    none : (text rest : List ℕ) → IsForm text → (let e : List ℕ = [] in e) ≡ text ++ rest → ⊥
    none [] rest f e = form_some f refl
    none (byte ∷ text) rest f e = cc

-- ---- all tokens of a source

-- bytes have one list of tokens at most
pub lexes_once : {at : ℕ} {bytes : List ℕ} {ts us : List Token} → Lexes at bytes ts → Lexes at bytes us → ts ≡ us
lexes_once t.end t.end = refl
lexes_once t.end (t.skip some l) = absurd (omega arith)
lexes_once t.end (t.next len plain g l) = absurd (nothing_begins g)
lexes_once (t.skip some l) t.end = absurd (omega arith)
lexes_once (t.skip some l) (t.skip also m) = lexes_once l m
lexes_once (t.skip some l) (t.next len plain g m) = absurd (omega arith)
lexes_once (t.next len plain g l) t.end = absurd (nothing_begins g)
lexes_once (t.next len plain g l) (t.skip some m) = absurd (omega arith)
lexes_once (t.next {at = at} {bytes = bytes} {w = a} len plain g l) (t.next {tokens = us} {w = b} count also h m) =
    let once = begins_once g h in
    let size : len ≡ count = once.0 in
    let kind : a ≡ b = once.1 in
    let rest = lexes_once l (subst (λ n. Lexes (at + n) (drop n bytes) us) (sym size) m) in
    rw (size, kind, rest)

-- no bytes have both a list of tokens and a place where none begins
pub not_both : {at place : ℕ} {bytes : List ℕ} {ts : List Token} → Lexes at bytes ts → Stuck at bytes place → ⊥
not_both t.end (t.skip some s) = absurd (omega arith)
not_both t.end (t.next len plain g s) = nothing_begins g
not_both (t.skip some l) (t.here plain none) = absurd (omega arith)
not_both (t.skip some l) (t.skip also s) = not_both l s
not_both (t.skip some l) (t.next len plain g s) = absurd (omega arith)
not_both (t.next len plain g l) (t.here also none) = none len _ g
not_both (t.next len plain g l) (t.skip some s) = absurd (omega arith)
not_both (t.next {at = at} {bytes = bytes} len plain g l) (t.next {place = place} count also h s) =
    not_both l (subst (λ n. Stuck (at + n) (drop n bytes) place) (sym (begins_once g h).0) s)

-- bytes have one first place where no token begins
pub stuck_once : {at a b : ℕ} {bytes : List ℕ} → Stuck at bytes a → Stuck at bytes b → a ≡ b
stuck_once (t.here plain none) (t.here also never) = refl
stuck_once (t.here plain none) (t.skip some s) = absurd (omega arith)
stuck_once (t.here plain none) (t.next len also g s) = absurd (none len _ g)
stuck_once (t.skip some s) (t.here plain none) = absurd (omega arith)
stuck_once (t.skip some s) (t.skip also r) = stuck_once s r
stuck_once (t.skip some s) (t.next len plain g r) = absurd (omega arith)
stuck_once (t.next len plain g s) (t.here also none) = absurd (none len _ g)
stuck_once (t.next len plain g s) (t.skip some r) = absurd (omega arith)
stuck_once (t.next {at = at} {bytes = bytes} len plain g s) (t.next {place = place} count also h r) =
    stuck_once s (subst (λ n. Stuck (at + n) (drop n bytes) place) (sym (begins_once g h).0) r)

-- ---- what the list of tokens of bytes is

-- the end is the last, and each other is a token of some bytes
pub lexes_tokens : {at : ℕ} {bytes : List ℕ} {ts : List Token} → Lexes at bytes ts → AreTokens ts
lexes_tokens (t.end {at = at}) = record { front = []; end = at; is = refl; inner = tt; legal = tt }
lexes_tokens (t.skip some l) = lexes_tokens l
lexes_tokens (t.next {at = at} {w = w} len plain g l) = let r = lexes_tokens l in record {
  front = token at (at + len) w ∷ r.front;
  end = r.end;
  is = ap (λ ts. token at (at + len) w ∷ ts) r.is;
  inner = (no_end g.means, r.inner);
  legal = (record { text = g.text; means = g.means }, r.legal);
}
  where
    no_end : {text : List ℕ} {w : What} → IsToken text w → w ≡ what.End → ⊥
    no_end (t.key k) e = cc
    no_end (t.name letter each few other) e = cc
    no_end t.nought e = cc
    no_end (t.number digit other each same small) e = cc
    no_end (t.string body few) e = cc
    no_end (t.sign s) e = cc

-- there are no more tokens than bytes, but for the end
pub lexes_length : {at : ℕ} {bytes : List ℕ} {ts : List Token} → Lexes at bytes ts → length ts ≤ length bytes + 1
lexes_length t.end = omega arith
lexes_length (t.skip {bytes = bytes} some l) = omega (arith, lexes_length l, length-drop (skip_len bytes) bytes)
lexes_length (t.next {bytes = bytes} len plain g l) = omega (arith, lexes_length l, length-drop len bytes, begins_some g, begins_within g)
