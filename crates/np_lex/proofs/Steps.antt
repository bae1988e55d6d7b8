-- One step of the reader of tokens, over the whole source.
use Rattle.std.proofs.Common.{◌≡◌, ℕ, ◌+◌, ◌<◌, ◌≤◌, List, [], ◌∷◌, ◌++◌, drop, length, refl, sym, ap, ◌∙◌, subst, append_assoc, None, Some, Option, arith, length-drop, length-append}
use Rattle.std.proofs.lemmas.List.{drop-drop, drop_all}
use Rattle.np_lex.specs.declared.token.Token.{Token}
use Rattle.np_lex.specs.declared.token.What.{What}
use Rattle.np_lex.specs.declared.token.What.TheVariants as what
use Rattle.np_lex.specs.Tokens as t
use Rattle.np_lex.specs.Tokens.{Lexes, Stuck, Begins, skip_len, token}
use Rattle.np_lex.specs.Lexing.{first_token}
use Rattle.np_lex.proofs.Longest.{form_some}
use Rattle.np_lex.proofs.Readings.{first_says, form_of}

-- ---- how long tokens are

some_length : (text : List ℕ) → (text ≡ [] → ⊥) → 0 < length text
some_length [] some = absurd (some refl)
some_length (byte ∷ text) some = omega arith

pub begins_some : {bytes : List ℕ} {len : ℕ} {w : What} → Begins bytes len w → 0 < len
begins_some g = let c : length g.text ≡ _ = g.counts in omega (arith, some_length g.text (form_some (form_of g.means)))

pub begins_within : {bytes : List ℕ} {len : ℕ} {w : What} → Begins bytes len w → len ≤ length bytes
begins_within g = let c : length g.text ≡ _ = g.counts in omega (arith, ap length g.is, length-append g.text g.rest)

-- the token that was read ends within the source
pub first_within : (source : List ℕ) (at : ℕ) {bytes : List ℕ} {len : ℕ} {w : What} {first : Option (ℕ × What)} → at < length source → bytes ≡ drop at source → first ≡ Some (len, w) → first ≡ first_token bytes
    → (0 < len) × (at + len ≤ length source)
first_within source at {bytes = bytes} {len = len} {w = w} inside here some reads =
    let s = first_says bytes in
    let g = s.found len w (sym reads ∙ some) in
    (begins_some g, omega (arith, begins_within g, ap length here, length-drop at source))

pub none_skipped : {n m : ℕ} → n ≤ 0 → n ≡ m → 0 ≡ m
none_skipped none same = omega arith

-- ---- the tokens that were found stand before those of the rest

pub record Before (source : List ℕ) (at : ℕ) (found : List Token) : Type 0 where
  pub tokens : (more : List Token) → Lexes at (drop at source) more → Lexes 0 source (found ++ more)
  pub stuck : (place : ℕ) → Stuck at (drop at source) place → Stuck 0 source place

pub before_skip : {source bytes : List ℕ} {at n : ℕ} {found : List Token} → Before source at found → bytes ≡ drop at source → n ≡ skip_len bytes → 0 < n → Before source (at + n) found
before_skip {source = source} {at = at} {n = n} b here e some = record {
  tokens = λ more l. b.tokens more (t.skip (rw (← skipped) some) (rw (← skipped) (moved (λ k. Lexes (at + n) k more) l)));
  stuck = λ place s. b.stuck place (t.skip (rw (← skipped) some) (rw (← skipped) (moved (λ k. Stuck (at + n) k place) s)));
}
  where
    skipped : n ≡ skip_len (drop at source)
    skipped = e ∙ ap skip_len here

    moved : (P : List ℕ → Type 0) → P (drop (at + n) source) → P (drop n (drop at source))
    moved P h = subst P (sym (drop-drop n at source)) h

pub before_token : {source bytes : List ℕ} {at len : ℕ} {w : What} {found : List Token} → Before source at found → bytes ≡ drop at source → 0 ≡ skip_len bytes → Some (len, w) ≡ first_token bytes
    → Before source (at + len) (found ++ token at (at + len) w ∷ [])
before_token {source = source} {at = at} {len = len} {w = w} {found = found} b here none e = record {
  tokens = λ more l. rw append_assoc (b.tokens (token at (at + len) w ∷ more) (t.next len plain begins (moved (λ k. Lexes (at + len) k more) l)));
  stuck = λ place s. b.stuck place (t.next len plain begins (moved (λ k. Stuck (at + len) k place) s));
}
  where
    plain : skip_len (drop at source) ≡ 0
    plain = sym (none ∙ ap skip_len here)

    begins : Begins (drop at source) len w
    begins = let s = first_says (drop at source) in s.found len w (sym (e ∙ ap first_token here))

    moved : (P : List ℕ → Type 0) → P (drop (at + len) source) → P (drop len (drop at source))
    moved P h = subst P (sym (drop-drop len at source)) h

-- ---- how it ends

stuck_at : (at : ℕ) (bytes : List ℕ) → 0 < length bytes → 0 ≡ skip_len bytes → None ≡ first_token bytes → Stuck at bytes at
stuck_at at [] some plain e = absurd (omega arith)
stuck_at at (byte ∷ rest) some plain e = let s = first_says (byte ∷ rest) in t.here (sym plain) (λ len w g. never (sym e) (s.only len w g))
  where
    never : {o : Option (ℕ × What)} {p : ℕ × What} → o ≡ None → o ≡ Some p → ⊥
    never none one = cc

pub stuck_here : {source bytes : List ℕ} {at : ℕ} {found : List Token} → Before source at found → bytes ≡ drop at source → at < length source → 0 ≡ skip_len bytes → None ≡ first_token bytes
    → Stuck 0 source at
stuck_here {source = source} {at = at} b here inside plain e =
    b.stuck at (subst (λ l. Stuck at l at) here (stuck_at at _ (omega (arith, ap length here, length-drop at source)) plain e))

pub end_lexed : {source : List ℕ} {at : ℕ} {found : List Token} → Before source at found → length source ≤ at → Lexes 0 source (found ++ token at at what.End ∷ [])
end_lexed {source = source} {at = at} b over = b.tokens _ (subst (λ l. Lexes at l (token at at what.End ∷ [])) (sym (drop_all at source over)) t.end)
