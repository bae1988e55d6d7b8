-- Behind the names that a pattern puts in scope stand those that were there before.
use Rattle.std.proofs.Common.{◌≡◌, ◌<◌, ◌≤◌, ℕ, ◌+◌, ◌-◌, List, [], ◌∷◌, ◌++◌, drop, length, map, refl, sym, ap, subst, ◌∙◌, arith, append_assoc, length-append}
use Rattle.std.proofs.lemmas.List.{length-drop, drop_at, drop-drop}
use Rattle.np_syntax.specs.declared.pattern.Pat.{Pat}
use Rattle.np_tree.specs.declared.tree.RawPat.{RawPat, ind-RawPat, roll-RawPat}
use Rattle.np_tree.specs.declared.tree.RawPatForm.{RawPatForm, RawPatForm-F, roll-RawPatForm, map-RawPatForm}
use Rattle.np_tree.specs.declared.tree.RawPatForm.TheVariants.{rolls-Any, rolls-Bind, rolls-Tuple}
use Rattle.np_scope.specs.declared.scope.Meaning.TheVariants as meaning
use Rattle.np_scope.specs.Naming.{Named}
use Rattle.np_scope.specs.Resolved.{Bound, bound, pat_of, pat_form_of, pats_of}
use Rattle.np_scope.proofs.Forms.{pat-form, pat-any, pat-bind, pat-tuple}

-- names were added in front
abbrev Added : List Named → List Named → Type 0
Added new old = (names : List Named) × (new ≡ names ++ old)

both : {a b c : List Named} → Added a b → Added b c → Added a c
both {a} {b} {c} h g = (h.0 ++ g.0, h.1 ∙ ap (λ t. h.0 ++ t) g.1 ∙ sym (append_assoc h.0 g.0 c))

abbrev Adds : RawPat → Type 0
Adds p = (scope : List Named) (next : ℕ) → Added (pat_of p scope next).scope scope

abbrev FormAdds : RawPatForm → Type 0
FormAdds f = (at : ℕ) (scope : List Named) (next : ℕ) → Added (pat_form_of f at scope next).scope scope

abbrev Parts : Type 0
Parts = List ((p : RawPat) × Adds p)

abbrev pats : Parts → List RawPat
pats ps = map (λ p. p.0) ps

parts-add : (ps : Parts) (scope : List Named) (next : ℕ) → Added (pats_of (pats ps) scope next).scope scope
parts-add [] scope next = ([], refl)
parts-add (p ∷ ps) scope next = both (parts-add ps (pat_of p.0 scope next).scope (pat_of p.0 scope next).next) (p.1 scope next)

form-adds : (y : RawPatForm-F ((f : RawPatForm) × FormAdds f) ((p : RawPat) × Adds p))
    → FormAdds (roll-RawPatForm (map-RawPatForm ((f : RawPatForm) × FormAdds f) ((p : RawPat) × Adds p) RawPatForm RawPat (λ f. f.0) (λ p. p.0) y))
form-adds RawPatForm-F.Any = subst FormAdds (sym rolls-Any) (λ at scope next. ([], ap (λ b. b.scope) (pat-any at scope next)))
form-adds (RawPatForm-F.Bind name) = subst FormAdds (sym (rolls-Bind name))
    (λ at scope next. ((name.text, meaning.Binder next) ∷ [], ap (λ b. b.scope) (pat-bind at scope next name)))
form-adds (RawPatForm-F.Tuple ps) = subst FormAdds (sym (rolls-Tuple (pats ps)))
    (λ at scope next. let r = parts-add ps scope next in (r.0, ap (λ b. b.scope) (pat-tuple at scope next (pats ps)) ∙ r.1))

pub adds : (p : RawPat) → Adds p
adds = ind-RawPat FormAdds Adds
    (λ x y is. subst (λ x. FormAdds (roll-RawPatForm x)) is (form-adds y))
    (λ x y is. subst (λ x. Adds (roll-RawPat x)) is (λ scope next.
    let r = y.form.1 y.at scope next in (r.0, ap (λ b. b.scope) (pat-form (record { at = y.at; form = y.form.0 }) scope next) ∙ r.1)))

left_behind : (new old : List Named) → Added new old → drop (length new - length old) new ≡ old
left_behind new old h =
    let e : length new ≡ length h.0 + length old = ap length h.1 ∙ length-append h.0 old in
    let f : length h.0 ≡ length new - length old = omega (arith, e) in
    ap (drop (length new - length old)) h.1 ∙ drop_at h.0 old (length new - length old) f

pub leave_pat : (x : RawPat) (scope : List Named) (next : ℕ) → drop (length (pat_of x scope next).scope - length scope) (pat_of x scope next).scope ≡ scope
leave_pat x scope next = left_behind (pat_of x scope next).scope scope (adds x scope next)

-- no fewer names are in scope
pub longer : (x : RawPat) (scope new : List Named) (next after depth : ℕ) (p : Pat) → pat_of x scope next ≡ bound p new after → depth ≡ length scope → depth ≤ length new
longer x scope new next after depth p is e =
    let h = adds x scope next in
    let f : length new ≡ length h.0 + length scope = ap (λ (b : Bound Pat). length b.scope) (sym is) ∙ ap length h.1 ∙ length-append h.0 scope in
    omega (arith, e, f)

-- behind a body in the scope of a pattern, where the names go out of scope again
pub back_out : (x : RawPat) (scope new body end : List Named) (next after depth : ℕ) (p : Pat) → pat_of x scope next ≡ bound p new after → depth ≡ length scope
    → body ≡ new → end ≡ drop (length body - depth) body → end ≡ scope
back_out x scope new body end next after depth p is e same left =
    let n : new ≡ (pat_of x scope next).scope = ap (λ (b : Bound Pat). b.scope) (sym is) in
    let b : body ≡ (pat_of x scope next).scope = same ∙ n in
    left ∙ ap (λ d. drop (length body - d) body) e ∙ ap (λ (s : List Named). drop (length s - length scope) s) b ∙ leave_pat x scope next

-- one name less is in scope
pub one_less : (depth : ℕ) (first old new : List Named) → depth < length old → length old ≤ length first → old ≡ drop (length first - length old) first → new ≡ drop 1 old
    → (depth ≤ length new) × (length new ≤ length first) × (new ≡ drop (length first - length new) first)
one_less depth first old new more within is less =
    let e : length new ≡ length old - 1 = ap length less ∙ length-drop 1 old in
    let k : length first - length old + 1 ≡ length first - length new = omega (arith, e, more, within) in
    (omega (arith, e, more), omega (arith, e, within), less ∙ ap (drop 1) is ∙ drop-drop 1 (length first - length old) first ∙ ap (λ n. drop n first) k)
