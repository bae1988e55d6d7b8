-- A bracket of processes that is read is in the grammar, and what is refused in one cannot go on.
use Rattle.std.proofs.Common.{◌≡◌, ℕ, zero, suc, ◌+◌, ◌<◌, ◌≤◌, max, ◌⊎◌, inl, inr, List, [], ◌∷◌, ◌++◌, refl, sym, subst, append_assoc, append-nil, add-one, arith}
use Rattle.std.specs.Prelude.{nat_le, Bool, true, false}
use Rattle.std.proofs.lemmas.Bool.Decides.{nat_tests}
use Rattle.np_lex.specs.declared.token.Sign.TheVariants as sign
use Rattle.np_lex.specs.declared.token.Token.{Token}
use Rattle.np_lex.specs.declared.token.What.{What}
use Rattle.np_lex.specs.declared.token.What.TheVariants as what
use Rattle.np_lex.specs.Tokens.{token, sign_at}
use Rattle.np_tree.specs.declared.tree.RawProc.{RawProc}
use Rattle.np_tree.specs.declared.tree.RawProcForm as form
use Rattle.np_tree.specs.Grammar as g
use Rattle.np_tree.specs.Grammar.{process, IsProc, AreMany}
use Rattle.np_parse.specs.Input.{Parser, and_then, ◌>>=◌, peek, take, expect_sign}
use Rattle.np_parse.specs.Read.Heads.{ReadProc}
use Rattle.np_parse.specs.Read.Processes.{both, more, bracket, proc}
use Rattle.np_parse.proofs.Fine.{fine_then, fine_refuse, fine_deep, fine_take}
use Rattle.np_parse.proofs.RaiseProcs.{raise_proc, raise_many}
use Rattle.np_parse.proofs.FineTokens.{SignRead, sign_fine}
use Rattle.np_parse.proofs.SoundHeads.{BeginsProc, AnyProc, ProcRead, FineProc, zero_, any_proc, guarded_fine, some_proc}
use Rattle.np_parse.proofs.SoundProcs.{ProcLevel, inner_fine}

pub some_level : {m d : ℕ} {ts : List Token} {x : RawProc} → IsProc m d ts x → 0 < d
some_level (g.IsProc.bracket a b (g.AreMany.two i j x y)) = omega arith
some_level (g.IsProc.bracket a b (g.AreMany.more i j x y)) = omega arith
some_level {d = suc d} p = omega arith

pub many_some : {m at d : ℕ} {ts : List Token} {x : RawProc} → AreMany m at d ts x → 0 < d
many_some (g.AreMany.two i j x y) = omega arith
many_some (g.AreMany.more i j x y) = omega arith

module _ (at end : ℕ) where
  abbrev open_ : List Token → List Token
  open_ u = sign_at at end sign.RoundOpen ∷ u

  -- ---- what begins a bracket

  first_begins : (m b : ℕ) (s : List Token) → BeginsProc m b s → BeginsProc m (suc b) (open_ [] ++ s)
  first_begins m b s v =
      let behind = sign_at 0 0 sign.Bar ∷ zero_ in
      let close_ = sign_at 0 0 sign.RoundClose ∷ [] in
      let stop = process 0 form.Stop in
      let same : ((s ++ v.0) ++ behind) ++ close_ ≡ s ++ (v.0 ++ (behind ++ close_)) = simp append_assoc in (
        v.0 ++ (behind ++ close_),
        _,
        subst (λ l. IsProc m (suc b) (open_ l) (process at (form.Par v.1 stop))) same (g.IsProc.bracket 0 0 (g.AreMany.two 0 0 v.2 (some_proc m b (some_level v.2)))),
      )

  first_any : (s : List Token) → AnyProc s → AnyProc (open_ [] ++ s)
  first_any s d = any_proc d.0 (suc d.0) (open_ [] ++ s) (first_begins d.0 d.0 s d.1)

  bar_begins : (m b i j : ℕ) (u s : List Token) (x : RawProc) → IsProc m b u x ⊎ AreMany m at b u x → BeginsProc m b s → BeginsProc m (suc b) ((open_ u ++ sign_at i j sign.Bar ∷ []) ++ s)
  bar_begins m b i j u s x p v =
      let bar_ = sign_at i j sign.Bar ∷ [] in
      let close_ = sign_at 0 0 sign.RoundClose ∷ [] in
      let same : (u ++ sign_at i j sign.Bar ∷ (s ++ v.0)) ++ close_ ≡ ((u ++ bar_) ++ s) ++ (v.0 ++ close_) = simp append_assoc in
      let longer : AreMany m at (suc b) (u ++ sign_at i j sign.Bar ∷ (s ++ v.0)) (process at (form.Par x v.1)) =
      elim p [ inl one_ ↦ g.AreMany.two i j one_ v.2 | inr many_ ↦ g.AreMany.more i j many_ v.2 ] in
      (v.0 ++ close_, _, subst (λ l. IsProc m (suc b) (open_ l) (process at (form.Par x v.1))) same (g.IsProc.bracket 0 0 longer))

  bar_any : (m b i j : ℕ) (u s : List Token) (x : RawProc) → IsProc m b u x ⊎ AreMany m at b u x → AnyProc s → AnyProc ((open_ u ++ sign_at i j sign.Bar ∷ []) ++ s)
  bar_any m b i j u s x p d =
      let n : ℕ = max (max m b) d.0 in
      let q : IsProc n n u x ⊎ AreMany n at n u x =
      elim p [ inl one_ ↦ inl (raise_proc one_ n n (omega arith) (omega arith)) | inr many_ ↦ inr (raise_many many_ n n (omega arith) (omega arith)) ] in
      any_proc n (suc n) ((open_ u ++ sign_at i j sign.Bar ∷ []) ++ s) (bar_begins n n i j u s x q (d.1.0, d.1.1, raise_proc d.1.2 n n (omega arith) (omega arith)))

  bar_deep : (m b i j : ℕ) (u : List Token) (x : RawProc) → IsProc m b u x ⊎ AreMany m at b u x → AnyProc (open_ u ++ sign_at i j sign.Bar ∷ [])
  bar_deep m b i j u x p =
      let v = bar_any m b i j u [] x p (1, (zero_, process 0 form.Stop, some_proc 1 1 (omega arith))) in
      subst AnyProc (append-nil (open_ u ++ sign_at i j sign.Bar ∷ [])) v

  many_begins : (m b : ℕ) (left : ReadProc) (u : List Token) → left.1 ≤ suc b → AreMany m at left.1 u left.0 → BeginsProc m (suc b) (open_ u)
  many_begins m b left u low p = (sign_at 0 0 sign.RoundClose ∷ [], left.0, g.IsProc.bracket 0 0 (raise_many p m (suc b) (omega arith) low))

  -- ---- from the third on

  abbrev FineMore : (m b turns : ℕ) → Type 0
  FineMore m b turns = (left : ReadProc) (u : List Token) → suc b < turns + left.1 → left.1 ≤ suc b → AreMany m at left.1 u left.0 → (ts : List Token)
      → FineProc m (suc b) (open_ u) ts (more (proc m b) (suc b) at turns left ts)

  module _ (m b : ℕ) (l : ProcLevel m b) where
    next_proc : (i j turns : ℕ) → FineMore m b turns → (left : ReadProc) (u : List Token) → suc b < suc turns + left.1 → 0 < left.1 → left.1 ≤ b → AreMany m at left.1 u left.0
        → (ts : List Token) → FineProc m (suc b) (open_ u ++ sign_at i j sign.Bar ∷ []) ts (and_then (proc m b ts) (λ right. more (proc m b) (suc b) at turns (both at left right)))
    next_proc i j turns again left u enough some low p ts =
        let bar_ = sign_at i j sign.Bar in
        let pre = open_ u ++ bar_ ∷ [] in
        inner_fine m b (suc b) (ProcRead m (suc b)) pre ts (λ right. more (proc m b) (suc b) at turns (both at left right)) l
        (λ s v. bar_begins m b i j u s left.0 (inr (raise_many p m b (omega arith) low)) v)
        (λ s d. bar_any m left.1 i j u s left.0 (inr p) d)
        (λ x s rest q.
        let k : ℕ = max left.1 x.1 in
        let longer : AreMany m at (k + 1) (u ++ bar_ ∷ s) (process at (form.Par left.0 x.0)) =
        rw add-one (g.AreMany.more i j (raise_many p m k (omega arith) (omega arith)) (raise_proc q.2 m k (omega arith) (omega arith))) in
        let same : open_ u ++ bar_ ∷ s ≡ pre ++ s = sym (append_assoc (open_ u) (bar_ ∷ []) s) in
        subst (λ n. FineProc m (suc b) n rest (more (proc m b) (suc b) at turns (both at left x) rest)) same
        (again (both at left x) (u ++ bar_ ∷ s) (omega arith) (omega (arith, q.0)) longer rest))

    more_fine : (turns : ℕ) → FineMore m b turns
    unfolding more peek take
    more_fine zero left u enough low p ts = absurd (omega arith)
    more_fine (suc turns) left u enough low p [] = fine_refuse _ _ _ _ (many_begins m b left u low p)
    more_fine (suc turns) left u enough low p (t ∷ ts) = go t.at t.end t.what (more_fine turns)
      where
        bar_case : (i j : ℕ) → FineMore m b turns → (test : Bool) → nat_le (suc b) left.1 ≡ test
            → FineProc m (suc b) (open_ u) (sign_at i j sign.Bar ∷ ts) (more (proc m b) (suc b) at (suc turns) left (sign_at i j sign.Bar ∷ ts))
        bar_case i j again true e = rw e (fine_deep (BeginsProc m (suc b)) AnyProc (open_ u) (sign_at i j sign.Bar) ts (many_begins m b left u low p) (bar_deep m left.1 i j u left.0 (inr p)))
        bar_case i j again false e = rw e (fine_take (BeginsProc m (suc b)) AnyProc (ProcRead m (suc b)) (open_ u) (sign_at i j sign.Bar) ts
            (and_then (proc m b ts) (λ right. more (proc m b) (suc b) at turns (both at left right)))
            (next_proc i j turns again left u enough (many_some p) (grind (arith, nat_tests)) p ts))

        go : (i j : ℕ) (w : What) → FineMore m b turns → FineProc m (suc b) (open_ u) (token i j w ∷ ts) (more (proc m b) (suc b) at (suc turns) left (token i j w ∷ ts))
        go i j (what.Sign sign.Bar) again = bar_case i j again (nat_le (suc b) left.1) refl
        go i j (what.Sign sign.RoundClose) again = record { part = sign_at i j sign.RoundClose ∷ []; is = refl; holds = (low, many_some p, g.IsProc.bracket i j p) }
        go i j other again = fine_refuse (BeginsProc m (suc b)) AnyProc (open_ u) (token i j other ∷ ts) (many_begins m b left u low p)

    -- ---- the whole bracket

    second_fine : (i j : ℕ) (s : List Token) (x : ReadProc) → ProcRead m b x s → (rest : List Token)
        → FineProc m (suc b) ((open_ [] ++ s) ++ sign_at i j sign.Bar ∷ []) rest (and_then (proc m b rest) (λ second. more (proc m b) (suc b) at (suc b) (both at x second)))
    second_fine i j s x q rest =
        inner_fine m b (suc b) (ProcRead m (suc b)) ((open_ [] ++ s) ++ sign_at i j sign.Bar ∷ []) rest (λ second. more (proc m b) (suc b) at (suc b) (both at x second)) l
        (λ u v. bar_begins m b i j s u x.0 (inl (raise_proc q.2 m b (omega arith) q.0)) v)
        (λ u d. bar_any m x.1 i j s u x.0 (inl q.2) d)
        (λ y u r o.
        let k : ℕ = max x.1 y.1 in
        let pair : AreMany m at (k + 1) (s ++ sign_at i j sign.Bar ∷ u) (process at (form.Par x.0 y.0)) =
        rw add-one (g.AreMany.two i j (raise_proc q.2 m k (omega arith) (omega arith)) (raise_proc o.2 m k (omega arith) (omega arith))) in
        let same : open_ s ++ sign_at i j sign.Bar ∷ u ≡ (open_ s ++ sign_at i j sign.Bar ∷ []) ++ u = sym (append_assoc (open_ s) (sign_at i j sign.Bar ∷ []) u) in
        subst (λ n. FineProc m (suc b) n r (more (proc m b) (suc b) at (suc b) (both at x y) r)) same
        (more_fine (suc b) (both at x y) (s ++ sign_at i j sign.Bar ∷ u) (omega (arith, q.1)) (omega (arith, q.0, o.0)) pair r))

    inside_fine : (ts : List Token) → FineProc m (suc b) (open_ []) ts
        (and_then (proc m b ts) (λ first. expect_sign sign.Bar >>= (λ _. proc m b >>= (λ second. more (proc m b) (suc b) at (suc b) (both at first second)))))
    inside_fine ts =
        let V : List Token → Type 0 = BeginsProc m (suc b) in
        let Q : ReadProc → List Token → Type 0 = ProcRead m (suc b) in
        let last : ReadProc → Parser ReadProc = λ x. proc m b >>= (λ second. more (proc m b) (suc b) at (suc b) (both at x second)) in
        inner_fine m b (suc b) Q (open_ []) ts (λ first. expect_sign sign.Bar >>= (λ _. last first)) l
        (first_begins m b)
        first_any
        (λ x s rest q. fine_then V AnyProc (SignRead sign.Bar (open_ [] ++ s)) Q (open_ [] ++ s) rest (expect_sign sign.Bar rest) (λ _. last x)
        (sign_fine sign.Bar V AnyProc (open_ [] ++ s) rest (first_begins m b s ([], x.0, rw append-nil (raise_proc q.2 m b (omega arith) q.0))))
        (λ i here rest' e. subst (λ n. FineProc m (suc b) n rest' (last x rest')) (sym e.1) (second_fine i e.0 s x q rest')))

  pub bracket_fine : (m b : ℕ) → (0 < b → ProcLevel m b) → 0 < m → (ts : List Token) → FineProc m (suc b) [] (open_ ts) (bracket (proc m b) b (open_ ts))
  unfolding bracket take
  bracket_fine m b l some ts =
      let stop : BeginsProc m (suc b) [] = (zero_, process 0 form.Stop, some_proc m (suc b) (omega arith)) in
      guarded_fine (BeginsProc m (suc b)) AnyProc (ProcRead m (suc b)) b _ [] (sign_at at end sign.RoundOpen) ts stop
      (first_any [] (1, (zero_, process 0 form.Stop, some_proc 1 1 (omega arith))))
      (λ levels. fine_take (BeginsProc m (suc b)) AnyProc (ProcRead m (suc b)) [] (sign_at at end sign.RoundOpen) ts
      (and_then (proc m b ts) (λ first. expect_sign sign.Bar >>= (λ _. proc m b >>= (λ second. more (proc m b) (suc b) at (suc b) (both at first second)))))
      (inside_fine m b (l levels) ts))
