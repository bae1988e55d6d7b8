-- Names in lists, and things in footprints.
use Rattle.std.proofs.Common.{◌≡◌, ◌⊎◌, inl, inr, ⊎_elim, Bool, true, false, ◌||◌, List, [], ◌∷◌, ◌++◌, refl, sym, subst}
use Rattle.std.proofs.lemmas.Bool.{or_left, or_right}
use Rattle.np_syntax.specs.declared.value.Name.{Name}
use Rattle.np_tables.specs.Names.{same_name}
use Rattle.np_tables.proofs.Tables.{same_name-is, same_name-itself}
use Rattle.np_calculus.specs.FrameRule.{Every}
use Rattle.np_calculus.specs.Footprints.{AgreesOn, Footprint, SameMark, SamePlace}
use Rattle.np_calculus.specs.Sight.{Contents}
use Rattle.run_views.specs.Past.{Thing, is_among, is_in}

or-cases : (a b : Bool) → (a || b) ≡ true → (a ≡ true) ⊎ (b ≡ true)
or-cases true b h = inl refl
or-cases false b h = inr h

pub among-first : (q : Name) (ks : List Name) → is_among q (q ∷ ks) ≡ true
among-first q ks = or_left (same_name q q) _ (same_name-itself q)

pub among-later : (q k : Name) (ks : List Name) → is_among q ks ≡ true → is_among q (k ∷ ks) ≡ true
among-later q k ks h = or_right (same_name q k) _ h

or-keeps : (t a b : Bool) → (t || a) ≡ true → (a ≡ true → b ≡ true) → (t || b) ≡ true
or-keeps true a b h f = refl
or-keeps false a b h f = f h

pub among-left : (q : Name) (ks js : List Name) → is_among q ks ≡ true → is_among q (ks ++ js) ≡ true
among-left q [] js h = absurd cc
among-left q (k ∷ ks) js h = or-keeps (same_name q k) (is_among q ks) (is_among q (ks ++ js)) h (among-left q ks js)

pub among-right : (q : Name) (ks js : List Name) → is_among q js ≡ true → is_among q (ks ++ js) ≡ true
among-right q [] js h = h
among-right q (k ∷ ks) js h = or_right (same_name q k) _ (among-right q ks js h)

pub among-cases : (q k : Name) (ks : List Name) → is_among q (k ∷ ks) ≡ true → (q ≡ k) ⊎ (is_among q ks ≡ true)
among-cases q k ks h = ⊎_elim (λ t. inl (same_name-is q k t)) (λ t. inr t) (or-cases (same_name q k) (is_among q ks) h)

or-either : (t a b c : Bool) → (t || a) ≡ true → (a ≡ true → (b ≡ true) ⊎ (c ≡ true)) → ((t || b) ≡ true) ⊎ (c ≡ true)
or-either true a b c h f = inl refl
or-either false a b c h f = f h

pub among-either : (q : Name) (ks js : List Name) → is_among q (ks ++ js) ≡ true → (is_among q ks ≡ true) ⊎ (is_among q js ≡ true)
among-either q [] js h = inr h
among-either q (k ∷ ks) js h = or-either (same_name q k) (is_among q (ks ++ js)) (is_among q ks) (is_among q js) h (among-either q ks js)

pub every-among : (P : Name → Type 0) (ks : List Name) → ((q : Name) → is_among q ks ≡ true → P q) → Every P ks
every-among P [] f = tt
every-among P (k ∷ ks) f = (f k (among-first k ks), every-among P ks (λ q h. f q (among-later q k ks h)))

pub among-every : (P : Name → Type 0) (q : Name) (ks : List Name) → Every P ks → is_among q ks ≡ true → P q
among-every P q [] e h = absurd cc
among-every P q (k ∷ ks) e h = ⊎_elim (λ is. subst P (sym is) e.0) (λ t. among-every P q ks e.1 t) (among-cases q k ks h)

-- the same stands under a mark, or an agent has the same place
abbrev pub Same : Contents → Contents → Thing → Type 0
Same x y (Thing.mark q) = SameMark x y q
Same x y (Thing.place q) = SamePlace x y q

pub agrees-on : (x y : Contents) (f : Footprint) → ((t : Thing) → is_in t f ≡ true → Same x y t) → AgreesOn x y f
agrees-on x y f h = record {
  marks = every-among (SameMark x y) f.marks (λ q is. h (Thing.mark q) is);
  places = every-among (SamePlace x y) f.places (λ q is. h (Thing.place q) is);
}
