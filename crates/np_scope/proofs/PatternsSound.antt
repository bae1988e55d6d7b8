-- A pattern binds the next binders, and its names stand for them.
use Rattle.std.proofs.Common.{◌≡◌, ◌<◌, inl, inr, ℕ, ◌+◌, Bool, true, false, cond, Option, None, Some, List, [], ◌∷◌, ◌++◌, map, refl, sym, ap, subst, arith}
use Rattle.std.specs.Str.{bytes_eq}
use Rattle.np_syntax.specs.declared.pattern.Pat.{Pat}
use Rattle.np_tree.specs.declared.tree.RawPat.{RawPat, ind-RawPat, roll-RawPat}
use Rattle.np_tree.specs.declared.tree.RawPatForm.{RawPatForm, RawPatForm-F, roll-RawPatForm, map-RawPatForm}
use Rattle.np_tree.specs.declared.tree.RawPatForm.TheVariants.{rolls-Any, rolls-Bind, rolls-Tuple}
use Rattle.np_tree.specs.Sizes.{names, form_names, names_all}
use Rattle.np_tree.proofs.Sized.{names-form, names-any, names-bind, names-tuple}
use Rattle.np_scope.specs.declared.scope.Meaning.{Meaning}
use Rattle.np_scope.specs.declared.scope.Meaning.TheVariants as meaning
use Rattle.np_scope.specs.Naming.{Named, meaning_of}
use Rattle.np_scope.specs.Resolved.{Bound, pat_of, pat_form_of, pats_of}
use Rattle.np_scope.specs.Sound.{Among, AreNext, Binds, BindAll}
use Rattle.np_scope.proofs.Numbering.{next_then}
use Rattle.np_scope.proofs.Forms.{pat-form, pat-any, pat-bind, pat-tuple}

-- a site below n, or a binder in scope
abbrev pub Fine : ℕ → List ℕ → Meaning → Type 0
Fine n bs (meaning.Site s) = s < n
Fine n bs (meaning.Binder x) = Among x bs

-- the names in scope stand for sites below n and for these binders
abbrev pub Agrees : ℕ → List Named → List ℕ → Type 0
Agrees n scope bs = (name : List ℕ) (m : Meaning) → meaning_of scope name ≡ Some m → Fine n bs m

wider : (n k : ℕ) (bs : List ℕ) (m : Meaning) → Fine n bs m → Fine n (k ∷ bs) m
wider n k bs (meaning.Site s) h = h
wider n k bs (meaning.Binder x) h = inr h

abbrev pub some_of : Meaning → Option Meaning → Meaning
some_of d None = d
some_of d (Some m) = m

bound-name : (n k : ℕ) (bs : List ℕ) (outer : Option Meaning) (test : Bool) (m : Meaning) → ((m : Meaning) → outer ≡ Some m → Fine n bs m)
    → cond test (Some (meaning.Binder k)) outer ≡ Some m → Fine n (k ∷ bs) m
bound-name n k bs outer true m h is = subst (Fine n (k ∷ bs)) (ap (some_of m) is) (inl refl)
bound-name n k bs outer false m h is = wider n k bs m (h m is)

pub with-binder : (n k : ℕ) (name : List ℕ) (scope : List Named) (bs : List ℕ) → Agrees n scope bs → Agrees n ((name, meaning.Binder k) ∷ scope) (k ∷ bs)
with-binder n k name scope bs h q m is = bound-name n k bs (meaning_of scope q) (bytes_eq name q) m (h q) is

-- what patterns become is sound
pub record PatDone (n : ℕ) (bs : List ℕ) (next many : ℕ) (b : Bound Pat) : Type 0 where
  pub inner : List ℕ
  pub bound : List ℕ
  pub binds : Binds bs b.it inner bound
  pub numbered : AreNext next bound b.next
  pub agrees : Agrees n b.scope inner
  pub count : b.next ≡ next + many

record PatsDone (n : ℕ) (bs : List ℕ) (next many : ℕ) (b : Bound (List Pat)) : Type 0 where
  inner : List ℕ
  bound : List ℕ
  binds : BindAll bs b.it inner bound
  numbered : AreNext next bound b.next
  agrees : Agrees n b.scope inner
  count : b.next ≡ next + many

abbrev PatSound : ℕ → RawPat → Type 0
PatSound n p = (scope : List Named) (bs : List ℕ) (next : ℕ) → Agrees n scope bs → PatDone n bs next (names p) (pat_of p scope next)

abbrev FormSound : ℕ → RawPatForm → Type 0
FormSound n f = (at : ℕ) (scope : List Named) (bs : List ℕ) (next : ℕ) → Agrees n scope bs → PatDone n bs next (form_names f) (pat_form_of f at scope next)

abbrev Parts : ℕ → Type 0
Parts n = List ((p : RawPat) × PatSound n p)

abbrev pats : {n : ℕ} → Parts n → List RawPat
pats ps = map (λ p. p.0) ps

parts-sound : (n : ℕ) (ps : Parts n) (scope : List Named) (bs : List ℕ) (next : ℕ) → Agrees n scope bs → PatsDone n bs next (names_all (pats ps)) (pats_of (pats ps) scope next)
parts-sound n [] scope bs next h = record { inner = bs; bound = []; binds = BindAll.none; numbered = AreNext.none; agrees = h; count = omega arith }
parts-sound n (p ∷ ps) scope bs next h =
    let first = p.1 scope bs next h in
    let rest = parts-sound n ps (pat_of p.0 scope next).scope first.inner (pat_of p.0 scope next).next first.agrees in
    let c = first.count in
    let d = rest.count in
    record {
      inner = rest.inner;
      bound = first.bound ++ rest.bound;
      binds = BindAll.more first.binds rest.binds;
      numbered = next_then first.numbered rest.numbered;
      agrees = rest.agrees;
      count = omega (arith, c, d);
    }

form-sound : (n : ℕ) (y : RawPatForm-F ((f : RawPatForm) × FormSound n f) ((p : RawPat) × PatSound n p))
    → FormSound n (roll-RawPatForm (map-RawPatForm ((f : RawPatForm) × FormSound n f) ((p : RawPat) × PatSound n p) RawPatForm RawPat (λ f. f.0) (λ p. p.0) y))
form-sound n RawPatForm-F.Any = subst (FormSound n) (sym rolls-Any) (λ at scope bs next h.
    subst (PatDone n bs next _) (sym (pat-any at scope next)) (record { inner = bs; bound = []; binds = Binds.any; numbered = AreNext.none; agrees = h; count = omega (arith, names-any) }))
form-sound n (RawPatForm-F.Bind name) = subst (FormSound n) (sym (rolls-Bind name)) (λ at scope bs next h.
    subst (PatDone n bs next _) (sym (pat-bind at scope next name))
    (record {
      inner = next ∷ bs;
      bound = next ∷ [];
      binds = Binds.name;
      numbered = AreNext.more AreNext.none;
      agrees = with-binder n next name.text scope bs h;
      count = omega (arith, names-bind name);
    }))
form-sound n (RawPatForm-F.Tuple ps) = subst (FormSound n) (sym (rolls-Tuple (pats ps))) (λ at scope bs next h.
    let r = parts-sound n ps scope bs next h in
    let c = r.count in
    subst (PatDone n bs next _) (sym (pat-tuple at scope next (pats ps)))
    (record {
      inner = r.inner;
      bound = r.bound;
      binds = Binds.tuple r.binds;
      numbered = r.numbered;
      agrees = r.agrees;
      count = omega (arith, c, names-tuple (pats ps));
    }))

pub pat-sound : (n : ℕ) (p : RawPat) → PatSound n p
pat-sound n = ind-RawPat (FormSound n) (PatSound n)
    (λ x y is. subst (λ x. FormSound n (roll-RawPatForm x)) is (form-sound n y))
    (λ x y is. subst (λ x. PatSound n (roll-RawPat x)) is (λ scope bs next h.
    let p : RawPat = record { at = y.at; form = y.form.0 } in
    let r = y.form.1 y.at scope bs next h in
    let c = r.count in
    subst (PatDone n bs next (names p)) (sym (pat-form p scope next)) (record {
      inner = r.inner;
      bound = r.bound;
      binds = r.binds;
      numbered = r.numbered;
      agrees = r.agrees;
      count = omega (arith, c, names-form p);
    })))
