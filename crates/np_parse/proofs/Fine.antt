-- How a reader's outcome stands to the tokens. The tokens before it are `pre`; what `V` holds of can still be ended within the
-- depth, and what `D` holds of can be ended at some depth.
use Rattle.std.proofs.Common.{◌≡◌, ℕ, ◌<◌, ◌≤◌, ◌⊎◌, inl, inr, List, [], ◌∷◌, ◌++◌, Ok, Err, refl, sym, ap, ◌∙◌, subst, append_assoc, append-nil}
use Rattle.np_lex.specs.declared.token.Token.{Token}
use Rattle.np_parse.specs.declared.fail.ParseFail.{ParseFail}
use Rattle.np_parse.specs.declared.fail.ParseFail.TheVariants as fail
use Rattle.np_parse.specs.Input.{Outcome, Parser, and_then, place}

abbrev pub Why : (List Token → Type 0) → List Token → List Token → ParseFail → Type 0
Why D pre rest fail.Memory = ⊥
Why D pre rest (fail.Syntax at) = at ≡ place rest
Why D pre rest (fail.TooDeep at) = (at ≡ place rest) × (t : Token) × (r : List Token) × (rest ≡ t ∷ r) × D (pre ++ t ∷ [])

pub record Read {A : Type 0} (P : A → List Token → Type 0) (pre ts rest : List Token) (a : A) : Type 0 where
  pub part : List Token
  pub is : ts ≡ part ++ rest
  pub holds : P a (pre ++ part)

pub record Refused (V D : List Token → Type 0) (pre ts rest : List Token) (f : ParseFail) : Type 0 where
  pub part : List Token
  pub is : ts ≡ part ++ rest
  pub begins : V (pre ++ part)
  pub why : Why D (pre ++ part) rest f

abbrev pub Fine : {A : Type 0} → (V D : List Token → Type 0) → (A → List Token → Type 0) → List Token → List Token → Outcome A → Type 0
Fine V D P pre ts (Ok p) = Read P pre ts p.1 p.0
Fine V D P pre ts (Err p) = Refused V D pre ts p.1 p.0

-- one reader after another
pub fine_then : {A B : Type 0} (V D : List Token → Type 0) (P : A → List Token → Type 0) (Q : B → List Token → Type 0) (pre ts : List Token) (o : Outcome A) (q : A → Parser B)
    → Fine V D P pre ts o → ((a : A) (now rest : List Token) → P a now → Fine V D Q now rest (q a rest)) → Fine V D Q pre ts (and_then o q)
fine_then V D P Q pre ts (Err p) q f g = f
fine_then V D P Q pre ts (Ok p) q f g = join (q p.0 p.1) (g p.0 (pre ++ f.part) p.1 f.holds)
  where
    join : (o : Outcome _) → Fine V D Q (pre ++ f.part) p.1 o → Fine V D Q pre ts o
    join (Ok r) h = record { part = f.part ++ h.part; is = f.is ∙ ap (λ l. f.part ++ l) h.is ∙ sym (append_assoc f.part h.part r.1); holds = rw (← append_assoc) h.holds }
    join (Err r) h = record {
      part = f.part ++ h.part;
      is = f.is ∙ ap (λ l. f.part ++ l) h.is ∙ sym (append_assoc f.part h.part r.1);
      begins = rw (← append_assoc) h.begins;
      why = subst (λ l. Why D l r.1 r.0) (append_assoc pre f.part h.part) h.why;
    }

why_part : (D D' : List Token → Type 0) (pre part rest : List Token) (f : ParseFail) → ((s : List Token) → D' s → D (pre ++ s)) → Why D' part rest f → Why D (pre ++ part) rest f
why_part D D' pre part rest fail.Memory d w = w
why_part D D' pre part rest (fail.Syntax at) d w = w
why_part D D' pre part rest (fail.TooDeep at) d w = (w.0, w.1, w.2, w.3, rw append_assoc (d (part ++ w.1 ∷ []) w.4))

-- a reader of a part, behind what was read before
pub fine_part : {A : Type 0} (V D V' D' : List Token → Type 0) (P P' : A → List Token → Type 0) (pre ts : List Token) (o : Outcome A)
    → ((s : List Token) → V' s → V (pre ++ s)) → ((s : List Token) → D' s → D (pre ++ s)) → ((a : A) (s : List Token) → P' a s → P a (pre ++ s))
    → Fine V' D' P' [] ts o → Fine V D P pre ts o
fine_part V D V' D' P P' pre ts (Ok p) v d q f = record { part = f.part; is = f.is; holds = q p.0 f.part f.holds }
fine_part V D V' D' P P' pre ts (Err p) v d q f = record { part = f.part; is = f.is; begins = v f.part f.begins; why = why_part D D' pre f.part p.1 p.0 d f.why }

-- a token that nothing takes
pub fine_refuse : (V D : List Token → Type 0) (pre ts : List Token) → V pre → Refused V D pre ts ts (fail.Syntax (place ts))
fine_refuse V D pre ts v = record { part = []; is = refl; begins = rw append-nil v; why = refl }

pub fine_deep : (V D : List Token → Type 0) (pre : List Token) (t : Token) (ts : List Token) → V pre → D (pre ++ t ∷ []) → Refused V D pre (t ∷ ts) (t ∷ ts) (fail.TooDeep t.at)
fine_deep V D pre t ts v d = record { part = []; is = refl; begins = rw append-nil v; why = (refl, t, ts, refl, rw append-nil d) }

-- the next token was taken
pub fine_take : {A : Type 0} (V D : List Token → Type 0) (P : A → List Token → Type 0) (pre : List Token) (t : Token) (ts : List Token) (o : Outcome A)
    → Fine V D P (pre ++ t ∷ []) ts o → Fine V D P pre (t ∷ ts) o
fine_take V D P pre t ts (Ok p) f = record { part = t ∷ f.part; is = ap (λ l. t ∷ l) f.is; holds = rw append_assoc at f.holds }
fine_take V D P pre t ts (Err p) f = record {
  part = t ∷ f.part;
  is = ap (λ l. t ∷ l) f.is;
  begins = rw append_assoc at f.begins;
  why = subst (λ l. Why D l p.1 p.0) (append_assoc pre (t ∷ []) f.part) f.why;
}

-- nothing more is read
pub fine_done : {A : Type 0} (P : A → List Token → Type 0) (pre ts : List Token) (a : A) → P a pre → Read P pre ts ts a
fine_done P pre ts a h = record { part = []; is = refl; holds = rw append-nil h }

-- ---- a part of the grammar: which tokens have which value within so many levels

abbrev pub BeginsIn : {A : Type 0} → (ℕ → List Token → A → Type 0) → ℕ → List Token → Type 0
BeginsIn {A = A} Is b pre = (more : List Token) × (x : A) × Is b (pre ++ more) x

-- with no level left only the empty list begins it
abbrev pub OrEmpty : (List Token → Type 0) → List Token → Type 0
OrEmpty V pre = (pre ≡ []) ⊎ V pre

abbrev pub AnyIn : {A : Type 0} → (ℕ → List Token → A → Type 0) → List Token → Type 0
AnyIn Is pre = (d : ℕ) × BeginsIn Is d pre

abbrev pub ReadIn : {A : Type 0} → (ℕ → List Token → A → Type 0) → ℕ → A × ℕ → List Token → Type 0
ReadIn Is b x s = (x.1 ≤ b) × (0 < x.1) × Is x.1 s x.0

abbrev pub FineIn : {A : Type 0} → (ℕ → List Token → A → Type 0) → ℕ → List Token → List Token → Outcome (A × ℕ) → Type 0
FineIn Is b pre ts o = Fine (OrEmpty (BeginsIn Is b)) (AnyIn Is) (ReadIn Is b) pre ts o

-- more levels do no harm
pub record Raises {A : Type 0} (Is : ℕ → List Token → A → Type 0) : Type 0 where
  pub raise : {d : ℕ} {ts : List Token} {x : A} → Is d ts x → (b : ℕ) → d ≤ b → Is b ts x

-- what the reader of this part does
pub record Reader {A : Type 0} (Is : ℕ → List Token → A → Type 0) (b : ℕ) (read : Parser (A × ℕ)) : Type 0 where
  pub fine : (ts : List Token) → FineIn Is b [] ts (read ts)

-- something begins with nothing
pub some_begins : {A : Type 0} (Is : ℕ → List Token → A → Type 0) (b : ℕ) → BeginsIn Is b [] → (s : List Token) → OrEmpty (BeginsIn Is b) s → BeginsIn Is b s
some_begins Is b v s (inl e) = subst (BeginsIn Is b) (sym e) v
some_begins Is b v s (inr w) = w
