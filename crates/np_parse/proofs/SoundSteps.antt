-- The steps that are read are those of the grammar, and what is refused in them cannot go on.
use Rattle.std.proofs.Common.{◌≡◌, ℕ, zero, suc, ◌≤◌, max, List, [], ◌∷◌, ◌++◌, refl, sym, subst, append_assoc, append-nil, arith}
use Rattle.np_lex.specs.declared.token.Key.{Key}
use Rattle.np_lex.specs.declared.token.Sign.{Sign}
use Rattle.np_lex.specs.declared.token.Sign.TheVariants as sign
use Rattle.np_lex.specs.declared.token.Token.{Token}
use Rattle.np_lex.specs.Tokens.{sign_at, word_at, name_at}
use Rattle.np_tree.specs.declared.tree.Ident.{Ident}
use Rattle.np_tree.specs.Grammar.{IsChan, IsPat, IsAtom, IsExpr}
use Rattle.np_parse.specs.Input.{Parser, and_then, ◌>>=◌, pure, expect_sign, expect_word, name}
use Rattle.np_parse.specs.Read.Types.{chan}
use Rattle.np_parse.specs.Read.Patterns.{pat}
use Rattle.np_parse.specs.Read.Expressions.{atom, expr}
use Rattle.np_parse.specs.Read.Heads.{message}
use Rattle.np_parse.proofs.Fine.{Fine, fine_then, fine_part, fine_done, BeginsIn, OrEmpty, AnyIn, ReadIn, Raises, Reader, some_begins}
use Rattle.np_parse.proofs.RaiseTypes.{raise_chan, raise_pat}
use Rattle.np_parse.proofs.SoundTypes.{chan_fine, pat_fine}
use Rattle.np_parse.proofs.SoundExprs.{level_fine, raises_atom, raises_expr, some_expr}
use Rattle.np_parse.proofs.FineTokens.{SignRead, sign_fine, WordRead, word_fine, name_fine}
use Rattle.np_parse.proofs.FormSteps.{Kind, Held, Given, held, reader, Steps, run, IsSign, IsWord, IsName, IsMessage, IsStep, raise_step, some_step, All, all_map, all_some}

-- ---- steps

abbrev pub StepBegins : ℕ → Kind → List Token → Type 0
StepBegins m k s = (more : List Token) × (x : Held k) × IsStep m k (s ++ more) x

abbrev pub StepAny : Kind → List Token → Type 0
StepAny k s = (n : ℕ) × StepBegins n k s

abbrev pub StepRead : ℕ → (k : Kind) → Given k → List Token → Type 0
StepRead m k o s = IsStep m k s (held k o)

abbrev pub StepFine : ℕ → Kind → Type 0
StepFine m k = (ts : List Token) → Fine (StepBegins m k) (StepAny k) (StepRead m k) [] ts (reader m k ts)

-- a part of the grammar, without its depth
part_fine : {A : Type 0} (Is : ℕ → List Token → A → Type 0) (m : ℕ) (read : Parser (A × ℕ)) → Raises Is → BeginsIn Is m [] → Reader Is m read
    → (ts : List Token) → Fine (BeginsIn Is m) (AnyIn Is) (λ o s. Is m s o.0) [] ts (read ts)
part_fine Is m read raises some l ts = fine_part (BeginsIn Is m) (AnyIn Is) (OrEmpty (BeginsIn Is m)) (AnyIn Is) (λ o s. Is m s o.0) (ReadIn Is m) [] ts (read ts)
    (λ s v. some_begins Is m some s v) (λ s d. d) (λ o s p. raises.raise p.2 m p.0) (l.fine ts)

raises_chan : Raises IsChan
raises_chan = record { raise = λ p b h. raise_chan p b h }

raises_pat : Raises IsPat
raises_pat = record { raise = λ p b h. raise_pat p b h }

sign_step : (m : ℕ) (s : Sign) → StepFine m (Kind.sign s)
sign_step m s ts = fine_part (StepBegins m (Kind.sign s)) (StepAny (Kind.sign s)) (StepBegins m (Kind.sign s)) (StepAny (Kind.sign s)) (StepRead m (Kind.sign s)) (SignRead s []) [] ts (expect_sign s ts)
    (λ u v. v) (λ u v. v) (λ o u p. subst (IsSign s) (sym p.1) IsSign.is)
    (sign_fine s (StepBegins m (Kind.sign s)) (StepAny (Kind.sign s)) [] ts (sign_at 0 0 s ∷ [], tt, IsSign.is))

word_step : (m : ℕ) (k : Key) → StepFine m (Kind.word k)
word_step m k ts = fine_part (StepBegins m (Kind.word k)) (StepAny (Kind.word k)) (StepBegins m (Kind.word k)) (StepAny (Kind.word k)) (StepRead m (Kind.word k)) (WordRead k []) [] ts (expect_word k ts)
    (λ u v. v) (λ u v. v) (λ o u p. subst (IsWord k) (sym p.1) IsWord.is)
    (word_fine k (StepBegins m (Kind.word k)) (StepAny (Kind.word k)) [] ts (word_at 0 0 k ∷ [], tt, IsWord.is))

message_step : (m : ℕ) → StepFine (suc (suc m)) Kind.message
unfolding message
message_step m ts =
    let n : ℕ = suc (suc m) in
    let V : List Token → Type 0 = StepBegins n Kind.message in
    let D : List Token → Type 0 = StepAny Kind.message in
    let P : Ident → List Token → Type 0 = λ x s. (end : ℕ) × (s ≡ name_at x.at end x.text ∷ []) in
    let value = some_expr (suc m) in
    fine_then V D P (StepRead n Kind.message) [] ts (name ts) (λ x. expect_sign sign.Bang >>= (λ _. expr n >>= (λ y. pure (x, y.0))))
    (name_fine V D P [] ts (name_at 0 0 [] ∷ sign_at 0 0 sign.Bang ∷ value.0, _, IsMessage.is value.2) (λ at end text. (end, refl)))
    (λ x now rest p. fine_then V D (SignRead sign.Bang now) (StepRead n Kind.message) now rest (expect_sign sign.Bang rest) (λ _. expr n >>= (λ y. pure (x, y.0)))
    (sign_fine sign.Bang V D now rest (subst V (sym p.1) (sign_at 0 0 sign.Bang ∷ value.0, _, IsMessage.is value.2)))
    (λ i here rest' q.
    let first = name_at x.at p.0 x.text ∷ sign_at i q.0 sign.Bang ∷ [] in
    let same : first ≡ here = rw (q.1, p.1) in
    subst (λ l. Fine V D (StepRead n Kind.message) l rest' (and_then (expr n rest') (λ y. pure (x, y.0)))) same
    (fine_then V D (λ y s. (u : List Token) × (s ≡ first ++ u) × IsExpr n u y.0) (StepRead n Kind.message) first rest' (expr n rest') (λ y. pure (x, y.0))
    (fine_part V D (BeginsIn IsExpr n) (AnyIn IsExpr) (λ y s. (u : List Token) × (s ≡ first ++ u) × IsExpr n u y.0) (λ y s. IsExpr n s y.0) first rest' (expr n rest')
    (λ s v. (v.0, _, IsMessage.is v.2))
    (λ s d. (d.0, (d.1.0, _, IsMessage.is d.1.2)))
    (λ y s r. (s, refl, r))
    (part_fine IsExpr n (expr n) raises_expr (some_expr (suc m)) ((level_fine n).exprs) rest'))
    (λ y s u r. fine_done (StepRead n Kind.message) s u (x, y.0) (subst (λ l. IsMessage n l (x, y.0)) (sym r.1) (IsMessage.is r.2))))))

pub step_fine : (m : ℕ) (k : Kind) → StepFine (suc (suc m)) k
step_fine m (Kind.sign s) ts = sign_step (suc (suc m)) s ts
step_fine m (Kind.word k) ts = word_step (suc (suc m)) k ts
step_fine m Kind.name ts = name_fine (StepBegins (suc (suc m)) Kind.name) (StepAny Kind.name) (StepRead (suc (suc m)) Kind.name) [] ts (name_at 0 0 [] ∷ [], _, IsName.is) (λ at end text. IsName.is)
step_fine m Kind.chan ts = let v = some_step m Kind.chan in part_fine IsChan (suc (suc m)) (chan (suc (suc m))) raises_chan (v.tokens, v.found, v.is) (chan_fine (suc m)) ts
step_fine m Kind.pat ts = let v = some_step m Kind.pat in part_fine IsPat (suc (suc m)) (pat (suc (suc m))) raises_pat (v.tokens, v.found, v.is) (pat_fine (suc (suc m))) ts
step_fine m Kind.expr ts = let v = some_step m Kind.expr in part_fine IsExpr (suc (suc m)) (expr (suc (suc m))) raises_expr (v.tokens, v.found, v.is) ((level_fine (suc (suc m))).exprs) ts
step_fine m Kind.atom ts = let v = some_step m Kind.atom in part_fine IsAtom (suc (suc m)) (atom (suc (suc m))) raises_atom (v.tokens, v.found, v.is) ((level_fine (suc (suc m))).atoms) ts
step_fine m Kind.message ts = message_step m ts

pub regroup : (a b c d : List Token) → a ++ ((b ++ c) ++ d) ≡ (a ++ b) ++ (c ++ d)
regroup a b c d = simp append_assoc

-- what follows `pre` is the steps `s`, of which `Q` says what comes with them
module _ {A B : Type 0} (m : ℕ) (V D : List Token → Type 0) (P : B → List Token → Type 0) (Q : ℕ → List Token → A → Type 0)
    (to_v : (s more : List Token) (x : A) → Q (suc (suc m)) (s ++ more) x → V s)
    (to_d : (n : ℕ) (s more : List Token) (x : A) → Q n (s ++ more) x → D s)
    (next : A → Parser B)
    (after : (x : A) (now rest : List Token) → ((n : ℕ) → suc (suc m) ≤ n → Q n now x) → Fine V D P now rest (next x rest)) where
  step_v : (k : Kind) (f : Held k → Steps A) (pre : List Token) → All (suc (suc m)) (Steps.step k f) (λ us x. Q (suc (suc m)) (pre ++ us) x) → (s : List Token) → StepBegins (suc (suc m)) k s → V (pre ++ s)
  step_v k f pre h s v =
      let n : ℕ = suc (suc m) in
      let r = all_some m (f v.1) (λ us x. Q n (pre ++ ((s ++ v.0) ++ us)) x) (h (s ++ v.0) v.1 v.2) in
      let same = regroup pre s v.0 r.0 in
      to_v (pre ++ s) (v.0 ++ r.0) r.1 (subst (λ l. Q n l r.1) same r.2)

  step_d : (k : Kind) (f : Held k → Steps A) (pre : List Token) → ((n : ℕ) → suc (suc m) ≤ n → All n (Steps.step k f) (λ us x. Q n (pre ++ us) x)) → (s : List Token) → StepAny k s → D (pre ++ s)
  step_d k f pre h s d = go (max (suc (suc m)) d.0) (omega arith) (omega arith)
    where
      go : (n : ℕ) → suc (suc m) ≤ n → d.0 ≤ n → D (pre ++ s)
      go zero low high = absurd (omega arith)
      go (suc zero) low high = absurd (omega arith)
      go (suc (suc n)) low high =
          let v = d.1 in
          let r = all_some n (f v.1) (λ us x. Q (suc (suc n)) (pre ++ ((s ++ v.0) ++ us)) x) (h (suc (suc n)) low (s ++ v.0) v.1 (raise_step d.0 k (s ++ v.0) v.1 v.2 (suc (suc n)) high)) in
          let same = regroup pre s v.0 r.0 in
          to_d (suc (suc n)) (pre ++ s) (v.0 ++ r.0) r.1 (subst (λ l. Q (suc (suc n)) l r.1) same r.2)

  pub steps_fine : (s : Steps A) (pre ts : List Token) → ((n : ℕ) → suc (suc m) ≤ n → All n s (λ us x. Q n (pre ++ us) x)) → Fine V D P pre ts (run (suc (suc m)) s next ts)
  steps_fine (Steps.done x) pre ts h = after x pre ts (λ n low. subst (λ l. Q n l x) (append-nil pre) (h n low))
  steps_fine (Steps.step k f) pre ts h =
      let n : ℕ = suc (suc m) in
      let R : Given k → List Token → Type 0 = λ o now. (us : List Token) × (now ≡ pre ++ us) × IsStep n k us (held k o) in
      fine_then V D R P pre ts (reader n k ts) (λ o. run n (f (held k o)) next)
      (fine_part V D (StepBegins n k) (StepAny k) R (StepRead n k) pre ts (reader n k ts)
      (step_v k f pre (h n (omega arith)))
      (step_d k f pre h)
      (λ o s p. (s, refl, p))
      (step_fine m k ts))
      (λ o now rest p. subst (λ l. Fine V D P l rest (run n (f (held k o)) next rest)) (sym p.1) (steps_fine (f (held k o)) (pre ++ p.0) rest (λ j low.
      all_map j (f (held k o)) (λ us x. Q j (pre ++ (p.0 ++ us)) x) (λ us x. Q j ((pre ++ p.0) ++ us) x)
      (λ us x q. subst (λ l. Q j l x) (sym (append_assoc pre p.0 us)) q)
      (h j low p.0 (held k o) (raise_step n k p.0 (held k o) p.2 j low)))))
