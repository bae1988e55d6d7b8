-- A process that is read is in the grammar, and what is refused in one cannot go on.
use Rattle.std.proofs.Common.{◌≡◌, ℕ, suc, ◌+◌, ◌<◌, max, List, [], ◌∷◌, ◌++◌, refl, sym, subst, append_assoc, append-nil, add-one, arith}
use Rattle.np_lex.specs.declared.token.Token.{Token}
use Rattle.np_lex.specs.Tokens.{word_at}
use Rattle.np_tree.specs.declared.tree.RawProc.{RawProc}
use Rattle.np_tree.specs.declared.tree.RawProcForm as form
use Rattle.np_tree.specs.Grammar.{process, IsProc}
use Rattle.np_parse.specs.declared.head.Single.{Single}
use Rattle.np_parse.specs.declared.head.Double.{Double}
use Rattle.np_parse.specs.declared.head.DoubleForm.{DoubleForm}
use Rattle.np_parse.specs.declared.head.DoubleForm.TheVariants as double_
use Rattle.np_parse.specs.Input.{Parser, and_then, ◌>>=◌, pure, expect_word}
use Rattle.np_parse.specs.Read.Heads.{ReadProc, single_form, double_form, between}
use Rattle.np_parse.specs.Read.Processes.{single, double, proc}
use Rattle.np_parse.proofs.Fine.{Fine, fine_then, fine_part, fine_done}
use Rattle.np_parse.proofs.RaiseProcs.{raise_proc}
use Rattle.np_parse.proofs.FineTokens.{WordRead, word_fine}
use Rattle.np_parse.proofs.SoundSteps.{regroup}
use Rattle.np_parse.proofs.SoundHeads.{BeginsProc, AnyProc, ProcRead, FineProc, zero_, any_proc, HeadRead, some_proc, IsSingle, between_key, IsDouble}

pub record ProcLevel (m b : ℕ) : Type 0 where
  pub fine : (ts : List Token) → FineProc m b [] ts (proc m b ts)

-- ---- a reader of processes behind what came before it

pub inner_fine : {B : Type 0} (m b c : ℕ) (Q : B → List Token → Type 0) (pre ts : List Token) (q : ReadProc → Parser B) → ProcLevel m b
    → ((s : List Token) → BeginsProc m b s → BeginsProc m c (pre ++ s))
    → ((s : List Token) → AnyProc s → AnyProc (pre ++ s))
    → ((x : ReadProc) (s rest : List Token) → ProcRead m b x s → Fine (BeginsProc m c) AnyProc Q (pre ++ s) rest (q x rest))
    → Fine (BeginsProc m c) AnyProc Q pre ts (and_then (proc m b ts) q)
inner_fine m b c Q pre ts q l v d next =
    let P : ReadProc → List Token → Type 0 = λ x now. (s : List Token) × (now ≡ pre ++ s) × ProcRead m b x s in
    fine_then (BeginsProc m c) AnyProc P Q pre ts (proc m b ts) q
    (fine_part (BeginsProc m c) AnyProc (BeginsProc m b) AnyProc P (ProcRead m b) pre ts (proc m b ts) v d (λ x s r. (s, refl, r)) (l.fine ts))
    (λ x now rest r. subst (λ n. Fine (BeginsProc m c) AnyProc Q n rest (q x rest)) (sym r.1) (next x r.0 rest r.2))

-- ---- forms with one process

pub single_fine : (m b : ℕ) → ProcLevel m b → (h : Single) (now rest : List Token) → HeadRead IsSingle m b h now → FineProc m (suc b) now rest (single (proc m b) h rest)
unfolding single
single_fine m b l h now rest p = inner_fine m b (suc b) (ProcRead m (suc b)) now rest (λ x. pure (process h.at (single_form h.form x.0), x.1 + 1)) l
    (λ s v. (v.0, _, subst (λ r. IsProc m (suc b) r (process h.at (single_form h.form v.1))) (sym (append_assoc now s v.0)) (p.1 m (omega arith) b (s ++ v.0) v.1 v.2)))
    (λ s d.
    let k : ℕ = max m d.0 in
    let v = d.1 in
    any_proc k (suc k) (now ++ s) (
      v.0,
      _,
      subst (λ r. IsProc k (suc k) r (process h.at (single_form h.form v.1))) (sym (append_assoc now s v.0))
          (p.1 k (omega arith) k (s ++ v.0) v.1 (raise_proc v.2 k k (omega arith) (omega arith))),
    ))
    (λ x s r q. fine_done (ProcRead m (suc b)) (now ++ s) r (process h.at (single_form h.form x.0), x.1 + 1) (omega (arith, q.0), omega arith, rw add-one (p.1 m (omega arith) x.1 s x.0 q.2)))

-- ---- forms with two processes

pub between_is : (f : DoubleForm) → between f ≡ expect_word (between_key f)
between_is (double_.Agent x) = refl
between_is (double_.IfLocal x channel z) = refl
between_is (double_.If x) = refl

restack : (a b c d : List Token) (t : Token) → a ++ (b ++ t ∷ (c ++ d)) ≡ (((a ++ b) ++ t ∷ []) ++ c) ++ d
restack a b c d t = simp append_assoc

module _ (n b : ℕ) (h : Double) (now : List Token) (p : IsDouble n now h) where
  first_begins : 0 < b → (s : List Token) → BeginsProc n b s → BeginsProc n (suc b) (now ++ s)
  first_begins some s v =
      let behind = word_at 0 0 (between_key h.form) ∷ zero_ in
      let stop = process 0 form.Stop in (
        v.0 ++ behind,
        _,
        subst (λ r. IsProc n (suc b) r (process h.at (double_form h.form v.1 stop))) (regroup now s v.0 behind)
            (p b 0 0 (s ++ v.0) zero_ v.1 stop v.2 (some_proc n b some)),
      )

  second_begins : (i j : ℕ) (u : List Token) (x : RawProc) → IsProc n b u x → (s : List Token) → BeginsProc n b s
      → BeginsProc n (suc b) (((now ++ u) ++ word_at i j (between_key h.form) ∷ []) ++ s)
  second_begins i j u x q s v =
      (v.0, _, subst (λ r. IsProc n (suc b) r (process h.at (double_form h.form x v.1))) (restack now u s v.0 (word_at i j (between_key h.form))) (p b i j u (s ++ v.0) x v.1 q v.2))

module _ (m b : ℕ) (h : Double) (now : List Token) (p : HeadRead IsDouble m b h now) where
  first_any : (s : List Token) → AnyProc s → AnyProc (now ++ s)
  first_any s d =
      let k : ℕ = max m d.0 in
      any_proc k (suc (suc k)) (now ++ s) (first_begins k (suc k) h now (p.1 k (omega arith)) (omega arith) s (d.1.0, d.1.1, raise_proc d.1.2 k (suc k) (omega arith) (omega arith)))

  second_any : (i j c : ℕ) (u : List Token) (x : RawProc) → IsProc m c u x → (s : List Token) → AnyProc s → AnyProc (((now ++ u) ++ word_at i j (between_key h.form) ∷ []) ++ s)
  second_any i j c u x q s d =
      let k : ℕ = max (max m c) d.0 in
      any_proc k (suc k) (((now ++ u) ++ word_at i j (between_key h.form) ∷ []) ++ s)
      (second_begins k k h now (p.1 k (omega arith)) i j u x (raise_proc q k k (omega arith) (omega arith)) s (d.1.0, d.1.1, raise_proc d.1.2 k k (omega arith) (omega arith)))

  second_fine : ProcLevel m b → (i j : ℕ) (u : List Token) (x : ReadProc) → ProcRead m b x u → (rest : List Token)
      → FineProc m (suc b) ((now ++ u) ++ word_at i j (between_key h.form) ∷ []) rest
      (and_then (proc m b rest) (λ y. pure (process h.at (double_form h.form x.0 y.0), max x.1 y.1 + 1)))
  second_fine l i j u x q rest = inner_fine m b (suc b) (ProcRead m (suc b)) ((now ++ u) ++ word_at i j (between_key h.form) ∷ []) rest
      (λ y. pure (process h.at (double_form h.form x.0 y.0), max x.1 y.1 + 1)) l
      (second_begins m b h now (p.1 m (omega arith)) i j u x.0 (raise_proc q.2 m b (omega arith) q.0))
      (second_any i j x.1 u x.0 q.2)
      (λ y s r o.
      let k : ℕ = max x.1 y.1 in
      let between_ = word_at i j (between_key h.form) in
      let same : now ++ (u ++ between_ ∷ s) ≡ ((now ++ u) ++ between_ ∷ []) ++ s = simp append_assoc in
      fine_done (ProcRead m (suc b)) (((now ++ u) ++ between_ ∷ []) ++ s) r (process h.at (double_form h.form x.0 y.0), max x.1 y.1 + 1) (
        omega (arith, q.0, o.0),
        omega arith,
        rw add-one (subst (λ l. IsProc m (suc k) l (process h.at (double_form h.form x.0 y.0))) same
            (p.1 m (omega arith) k i j u s x.0 y.0 (raise_proc q.2 m k (omega arith) (omega arith)) (raise_proc o.2 m k (omega arith) (omega arith)))),
      ))

  pub double_fine : ProcLevel m b → (rest : List Token) → FineProc m (suc b) now rest (double (proc m b) h rest)
  unfolding double
  double_fine l rest =
      let V : List Token → Type 0 = BeginsProc m (suc b) in
      let Q : ReadProc → List Token → Type 0 = ProcRead m (suc b) in
      let last : ReadProc → Parser ReadProc = λ x. proc m b >>= (λ y. pure (process h.at (double_form h.form x.0 y.0), max x.1 y.1 + 1)) in
      inner_fine m b (suc b) Q now rest (λ x. between h.form >>= (λ _. last x)) l
      (first_begins m b h now (p.1 m (omega arith)) p.0)
      first_any
      (λ x s r q.
      subst (λ (e : Parser ℕ). FineProc m (suc b) (now ++ s) r (and_then (e r) (λ _. last x))) (sym (between_is h.form))
      (fine_then V AnyProc (WordRead (between_key h.form) (now ++ s)) Q (now ++ s) r (expect_word (between_key h.form) r) (λ _. last x)
      (word_fine (between_key h.form) V AnyProc (now ++ s) r
      (first_begins m b h now (p.1 m (omega arith)) p.0 s ([], x.0, rw append-nil (raise_proc q.2 m b (omega arith) q.0))))
      (λ i here rest' e. subst (λ l. FineProc m (suc b) l rest' (last x rest')) (sym e.1) (second_fine l i e.0 s x q rest'))))
