-- The reader against the grammar, for whole programs: what `parse` ensures.
use Rattle.std.proofs.Common.{◌≡◌, ℕ, suc, ◌≤◌, max, ◌⊎◌, inl, inr, List, [], ◌∷◌, ◌++◌, length, Ok, Err, Result, sym, ap, ◌∙◌, subst, append_assoc, append-nil, arith}
use Rattle.std.specs.Prelude.{◌≢◌, IfOk, IfErr}
use Rattle.std.proofs.lemmas.List.{append_cancel_right}
use Rattle.np_syntax.specs.declared.limits.TheConstants.{DEEPEST}
use Rattle.np_lex.specs.declared.token.Token.{Token}
use Rattle.np_lex.specs.declared.token.What.TheVariants as what
use Rattle.np_lex.specs.Tokens.{token, AreTokens}
use Rattle.np_tree.specs.declared.tree.Tree.{Tree}
use Rattle.np_tree.specs.Grammar.{IsProgram}
use Rattle.np_tree.specs.Sizes.{nodes, binders}
use Rattle.np_tree.proofs.Counted.{counted}
use Rattle.np_parse.specs.declared.fail.ParseFail.{ParseFail}
use Rattle.np_parse.specs.declared.fail.ParseFail.TheVariants as fail
use Rattle.np_parse.specs.Input.{Outcome, Reads}
use Rattle.np_parse.specs.Read.Programs.{program}
use Rattle.np_parse.specs.Refusal.{Begins, Refusal, Why}
use Rattle.np_parse.proofs.Fine as fine
use Rattle.np_parse.proofs.Fine.{Fine}
use Rattle.np_parse.proofs.SoundPrograms.{AnyProgram, program_fine}
use Rattle.np_parse.proofs.CompletePrograms.{complete_program}
use Rattle.np_parse.proofs.Unders.{IsDeep}
use Rattle.np_parse.proofs.UnderProcs.{under_program}
use Rattle.np_parse.proofs.Locals.{Again, left_of, put}
use Rattle.np_parse.proofs.LocalProcs.{local_program}
use Rattle.np_parse.proofs.Ends.{Ended, program_ended, nothing_behind, tokens_ended}

-- ---- no program begins so

err_not_ok : {A : Type 0} (o : Outcome A) (e : ParseFail × List Token) (x : A × List Token) → o ≡ Err e → o ≡ Ok x → ⊥
err_not_ok o e x h k = cc

-- a program of any depth that begins so is read by more levels, so by these levels it is refused as too deep or not at all
none_begins : (b d : ℕ) (pre : List Token) (t : Token) (f : ParseFail) → d ≤ b → ((more : List Token) → program b (pre ++ t ∷ more) ≡ Err (f, t ∷ more)) → Begins d (pre ++ t ∷ []) → ⊥
none_begins b d pre t f h same v =
    let e : (pre ++ t ∷ []) ++ v.0 ≡ pre ++ t ∷ v.0 = append_assoc pre (t ∷ []) v.0 in
    err_not_ok (program b (pre ++ t ∷ v.0)) (f, t ∷ v.0) (v.1, []) (same v.0) (complete_program (subst (λ l. IsProgram d l v.1) e v.2) b h)

never_begins : (b d : ℕ) (pre : List Token) (t : Token) (at : ℕ) → ((more : List Token) → program b (pre ++ t ∷ more) ≡ Err (fail.Syntax at, t ∷ more)) → Begins d (pre ++ t ∷ []) → ⊥
never_begins b d pre t at same v =
    let n : ℕ = max b d in
    none_begins n d pre t (fail.Syntax at) (omega arith) (λ more. go more ((under_program b n (omega arith)).at (pre ++ t ∷ more))) v
  where
    go : (more : List Token) → IsDeep (program b (pre ++ t ∷ more)) ⊎ (program b (pre ++ t ∷ more) ≡ program (max b d) (pre ++ t ∷ more))
        → program (max b d) (pre ++ t ∷ more) ≡ Err (fail.Syntax at, t ∷ more)
    go more (inr s) = sym s ∙ same more
    go more (inl deep) = absurd (rw (same more) at deep)

-- ---- whole lists of tokens, at two levels or more

module _ (b : ℕ) (ts : List Token) (t : Ended ts) where
  parse_ok : (rest : List Token) (x : Tree) → program (suc (suc b)) ts ≡ Ok (x, rest) → IsProgram (suc (suc b)) ts x
  parse_ok rest x e = go (subst (Fine (Begins (suc (suc b))) AnyProgram (λ x s. IsProgram (suc (suc b)) s x) [] ts) e (program_fine b ts))
    where
      go : fine.Read (λ x s. IsProgram (suc (suc b)) s x) [] ts rest x → IsProgram (suc (suc b)) ts x
      go r =
          let k = program_ended r.holds in
          let all : (k.front ++ token k.at k.end what.End ∷ []) ++ rest ≡ t.front ++ token t.at t.end what.End ∷ [] = ap (λ l. l ++ rest) (sym k.is) ∙ sym r.is ∙ t.is in
          let no_rest : rest ≡ [] = nothing_behind k.front t.front k.at k.end t.at t.end rest k.inner t.inner all in
          let same : r.part ≡ ts = sym (r.is ∙ ap (λ l. r.part ++ l) no_rest ∙ append-nil r.part) in
          subst (λ l. IsProgram (suc (suc b)) l x) same r.holds

  -- the whole tokens begin no other program
  not_all : (f : ParseFail) (rest : List Token) → program (suc (suc b)) ts ≡ Err (f, rest) → Begins (suc (suc b)) ts → ⊥
  not_all f rest e v =
      let k = program_ended v.2 in
      let all : (t.front ++ token t.at t.end what.End ∷ []) ++ v.0 ≡ k.front ++ token k.at k.end what.End ∷ [] = ap (λ l. l ++ v.0) (sym t.is) ∙ k.is in
      let no_more : v.0 ≡ [] = nothing_behind t.front k.front t.at t.end k.at k.end v.0 t.inner k.inner all in
      let same : ts ++ v.0 ≡ ts = ap (λ l. ts ++ l) no_more ∙ append-nil ts in
      err_not_ok (program (suc (suc b)) ts) (f, rest) (v.1, []) e (complete_program (subst (λ l. IsProgram (suc (suc b)) l v.1) same v.2) (suc (suc b)) (omega arith))

  parse_err : (rest : List Token) (f : ParseFail) → program (suc (suc b)) ts ≡ Err (f, rest) → Refusal (suc (suc b)) ts f
  parse_err rest f e = go rest e (subst (Fine (Begins (suc (suc b))) AnyProgram (λ x s. IsProgram (suc (suc b)) s x) [] ts) e (program_fine b ts))
    where
      why : (part : List Token) (u : Token) (r : List Token) (f : ParseFail) → ((more : List Token) → program (suc (suc b)) (part ++ u ∷ more) ≡ Err (f, u ∷ more))
          → fine.Why AnyProgram part (u ∷ r) f → Why part u f
      why part u r fail.Memory same h = h
      why part u r (fail.Syntax at) same h = (h, λ d v. never_begins (suc (suc b)) d part u at same v)
      why part u r (fail.TooDeep at) same h = let same_token : h.1 ≡ u = cc (h.3) in (h.0, h.4.0, subst (λ x. Begins h.4.0 (part ++ x ∷ [])) same_token h.4.1)

      refused_at : (u : Token) (r : List Token) (g : Again (program (suc (suc b))) ts u r) → program (suc (suc b)) ts ≡ Err (f, u ∷ r)
          → fine.Refused (Begins (suc (suc b))) AnyProgram [] ts (u ∷ r) f → Refusal (suc (suc b)) ts f
      refused_at u r g e h =
          let same_part : h.part ≡ g.part = append_cancel_right h.part g.part (u ∷ r) (sym h.is ∙ g.is) in
          let same : (more : List Token) → program (suc (suc b)) (g.part ++ u ∷ more) ≡ Err (f, u ∷ more) = λ more. g.same more ∙ ap (λ o. put o (u ∷ more)) e in
          record {
            pre = g.part;
            t = u;
            rest = r;
            is = g.is;
            shorter = subst (Begins (suc (suc b))) same_part h.begins;
            none = none_begins (suc (suc b)) (suc (suc b)) g.part u f (omega arith) same;
            why = why g.part u r f same (subst (λ l. fine.Why AnyProgram l (u ∷ r) f) same_part h.why);
          }

      go : (rest : List Token) → program (suc (suc b)) ts ≡ Err (f, rest) → fine.Refused (Begins (suc (suc b))) AnyProgram [] ts rest f → Refusal (suc (suc b)) ts f
      go [] e h = absurd (not_all f [] e (subst (Begins (suc (suc b))) (sym (h.is ∙ append-nil h.part)) h.begins))
      go (u ∷ r) e h = refused_at u r ((local_program (suc (suc b))).again ts u r (ap left_of e)) e h

-- ---- what the code ensures

pub found : (ts new : List Token) (r : Result Tree ParseFail) → AreTokens ts → Reads (program DEEPEST ts) r new → IfOk r (λ x. IsProgram DEEPEST ts x)
found ts new (Ok x) t e = parse_ok 198 ts (tokens_ended t) new x e
found ts new (Err f) t e = tt

pub only : (ts new : List Token) (r : Result Tree ParseFail) → AreTokens ts → Reads (program DEEPEST ts) r new → IfOk r (λ x. (y : Tree) → IsProgram DEEPEST ts y → y ≡ x)
only ts new (Ok x) t e = λ y p. let k : program DEEPEST ts ≡ Ok (y, []) = complete_program p DEEPEST (omega arith) in
    let pair : (let q : Tree × List Token = (x, new) in q) ≡ (y, []) = cc in sym (ap (λ (q : Tree × List Token). q.0) pair)
only ts new (Err f) t e = tt

pub complete : (ts new : List Token) (r : Result Tree ParseFail) → AreTokens ts → Reads (program DEEPEST ts) r new → IfErr r (λ e. e ≢ fail.Memory → (y : Tree) → IsProgram DEEPEST ts y → ⊥)
complete ts new (Ok x) t e = tt
complete ts new (Err f) t e = λ n y p. err_not_ok (program DEEPEST ts) (f, new) (y, []) (e n) (complete_program p DEEPEST (omega arith))

pub refused : (ts new : List Token) (r : Result Tree ParseFail) → AreTokens ts → Reads (program DEEPEST ts) r new → IfErr r (λ e. e ≢ fail.Memory → Refusal DEEPEST ts e)
refused ts new (Ok x) t e = tt
refused ts new (Err f) t e = λ n. parse_err 198 ts (tokens_ended t) new f (e n)

pub sizes : (ts new : List Token) (r : Result Tree ParseFail) → AreTokens ts → Reads (program DEEPEST ts) r new
    → IfOk r (λ x. (nodes x.main ≤ length ts) × (binders x.main ≤ length ts))
sizes ts new (Ok x) t e = counted (parse_ok 198 ts (tokens_ended t) new x e)
sizes ts new (Err f) t e = tt
