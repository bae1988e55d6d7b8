-- The index of who wrote last: how it is kept, and that what it finds are the causes; and when a set of places is the past.
use Rattle.std.proofs.Common.{◌≡◌, ◌<◌, ◌⊎◌, inl, inr, ⊎_elim, ℕ, suc, Bool, true, false, cond, ◌||◌, List, [], ◌∷◌, ◌++◌, Option, None, Some, refl, ap, sym, subst, ◌∙◌, arith}
use Rattle.std.proofs.lemmas.Bool.{cases_order}
use Rattle.std.specs.FinMap as map
use Rattle.np_syntax.specs.declared.value.Name.{Name}
use Rattle.np_tables.specs.Names.{NameMap, same_name}
use Rattle.np_tables.proofs.Tables.{get-none, get-put}
use Rattle.np_calculus.specs.Footprints.{Footprint}
use Rattle.run_views.specs.Index.{Index, IsFound, IsIndex, IsOneOf, causes, found_in, looked_up, noted, noting}
use Rattle.run_views.specs.Past.{IsCause, IsLast, Thing, Trace, is_among, is_in, is_written, trace_at}
use Rattle.run_views.proofs.Among.{among-cases, among-first, among-later}
use Rattle.run_views.proofs.Following.{below-suc}

-- ---- the index

get-noted : (qs : List Name) (t : NameMap ℕ) (j : ℕ) (q : Name) → map.get (noted t j qs) q ≡ cond (is_among q qs) (Some j) (map.get t q)
get-noted [] t j q = refl
get-noted (k ∷ qs) t j q = get-noted qs (map.insert t k j) j q ∙ ap (cond (is_among q qs) (Some j)) (get-put t k j q) ∙ twice (same_name q k) (is_among q qs) (Some j) (map.get t q)
  where
    twice : (s t : Bool) (a b : Option ℕ) → cond t a (cond s a b) ≡ cond (s || t) a b
    twice true true a b = refl
    twice true false a b = refl
    twice false t a b = refl

found-noting : (x : Index) (j : ℕ) (f : Footprint) (t : Thing) → found_in (noting x j f) t ≡ cond (is_in t f) (Some j) (found_in x t)
found-noting x j f (Thing.mark q) = get-noted f.marks x.marks j q
found-noting x j f (Thing.place q) = get-noted f.places x.places j q

module _ (ts : List Trace) where
  -- at first nothing was written
  pub index-empty : IsIndex ts 0 (record { marks = map.empty; places = map.empty })
  index-empty = record { each = none }
    where
      nothing : (t : Thing) (o : Option ℕ) → o ≡ None → IsFound ts 0 t o
      nothing t None h = λ m less. absurd (omega arith)
      nothing t (Some k) h = absurd cc

      none : (t : Thing) → IsFound ts 0 t (found_in (record { marks = map.empty; places = map.empty }) t)
      none (Thing.mark q) = nothing (Thing.mark q) _ (get-none {X = ℕ} q)
      none (Thing.place q) = nothing (Thing.place q) _ (get-none {X = ℕ} q)

  last-here : (j : ℕ) (t : Thing) → is_written ts j t ≡ true → IsLast ts t j (suc j)
  last-here j t is = record { before = omega arith; writes = is; none = λ m low high. absurd (omega arith) }

  at-or-below : (j m : ℕ) (t : Thing) → is_written ts j t ≡ false → (m < j → is_written ts m t ≡ false) → m < suc j → is_written ts m t ≡ false
  at-or-below j m t far below less = ⊎_elim below (λ same. ap (λ m. is_written ts m t) same ∙ far) (below-suc m j less)

  found-on : (j : ℕ) (t : Thing) (o : Option ℕ) → is_written ts j t ≡ false → IsFound ts j t o → IsFound ts (suc j) t o
  found-on j t None far h = λ m less. at-or-below j m t far (h m) less
  found-on j t (Some k) far h = record {
    before = let low : k < j = h.before in omega arith;
    writes = h.writes;
    none = λ m low high. at-or-below j m t far (h.none m low) high;
  }

  -- it is kept by noting what each event writes
  pub index-noting : (j : ℕ) (x : Index) (f : Footprint) → (trace_at ts j).written ≡ f → IsIndex ts j x → IsIndex ts (suc j) (noting x j f)
  index-noting j x f is h = record { each = λ t. subst (IsFound ts (suc j) t) (sym (found-noting x j f t)) (on t (is_in t f) (ap (is_in t) is)) }
    where
      on : (t : Thing) (b : Bool) → is_written ts j t ≡ b → IsFound ts (suc j) t (cond b (Some j) (found_in x t))
      on t true w = last-here j t w
      on t false w = found-on j t (found_in x t) w (h.each t)

-- ---- the causes

one-left : (k : ℕ) (xs ys : List (Option ℕ)) → IsOneOf k xs → IsOneOf k (xs ++ ys)
one-left k [] ys h = absurd h
one-left k (x ∷ xs) ys (inl is) = inl is
one-left k (x ∷ xs) ys (inr h) = inr (one-left k xs ys h)

one-right : (k : ℕ) (xs ys : List (Option ℕ)) → IsOneOf k ys → IsOneOf k (xs ++ ys)
one-right k [] ys h = h
one-right k (x ∷ xs) ys h = inr (one-right k xs ys h)

one-either : (k : ℕ) (xs ys : List (Option ℕ)) → IsOneOf k (xs ++ ys) → IsOneOf k xs ⊎ IsOneOf k ys
one-either k [] ys h = inr h
one-either k (x ∷ xs) ys (inl is) = inl (inl is)
one-either k (x ∷ xs) ys (inr h) = ⊎_elim (λ h. inl (inr h)) (λ h. inr h) (one-either k xs ys h)

looked-in : (t : NameMap ℕ) (qs : List Name) (q : Name) (k : ℕ) → is_among q qs ≡ true → map.get t q ≡ Some k → IsOneOf k (looked_up t qs)
looked-in t [] q k h is = absurd cc
looked-in t (p ∷ qs) q k h is = ⊎_elim (λ same. inl (ap (map.get t) (sym same) ∙ is)) (λ h. inr (looked-in t qs q k h is)) (among-cases q p qs h)

looked-out : (t : NameMap ℕ) (qs : List Name) (k : ℕ) → IsOneOf k (looked_up t qs) → (q : Name) × (is_among q qs ≡ true) × (map.get t q ≡ Some k)
looked-out t [] k h = absurd h
looked-out t (p ∷ qs) k (inl is) = (p, among-first p qs, is)
looked-out t (p ∷ qs) k (inr h) = let r = looked-out t qs k h in (r.0, among-later r.0 p qs r.1, r.2)

three : (m k : ℕ) → (k < m → ⊥) → (m < k → ⊥) → m ≡ k
three m k f g = ⊎_elim (λ less. absurd (f less)) (λ rest. ⊎_elim (λ less. absurd (g less)) (λ same. same) rest) (order m k)
  where
    order : (m k : ℕ) → (k < m) ⊎ ((m < k) ⊎ (m ≡ k))
    order m k = ⊎_elim (λ same. inr (inr same)) (λ rest. ⊎_elim (λ less. inr (inl less)) (λ less. inl less) rest) (cases_order m k)

module _ (ts : List Trace) (j : ℕ) (x : Index) (h : IsIndex ts j x) (f : Footprint) (here : (trace_at ts j).touched ≡ f) where
  found-is : (t : Thing) (k : ℕ) → found_in x t ≡ Some k → IsLast ts t k j
  found-is t k is = subst (IsFound ts j t) is (h.each t)

  -- the last before j is what is found
  is-found : (t : Thing) (k : ℕ) → IsLast ts t k j → found_in x t ≡ Some k
  is-found t k last = on (found_in x t) (h.each t)
    where
      clash : (b : Bool) {R : Type 0} → b ≡ true → b ≡ false → R
      clash true h k = absurd cc
      clash false h k = absurd cc

      on : (o : Option ℕ) → IsFound ts j t o → o ≡ Some k
      on None none = clash _ last.writes (none k last.before)
      on (Some m) other = ap Some (one m other)
        where
          one : (m : ℕ) → IsLast ts t m j → m ≡ k
          one m other = three m k (λ less. clash _ other.writes (last.none m less other.before)) (λ less. clash _ last.writes (other.none k less last.before))

  -- a place that is found for something that the event touches is a cause of it
  pub cause-found : (k : ℕ) → IsOneOf k (causes x f) → IsCause ts k j
  cause-found k h = ⊎_elim
      (λ m. let r = looked-out x.marks f.marks k m in record { thing = Thing.mark r.0; touched = ap (is_in (Thing.mark r.0)) here ∙ r.1; last = found-is (Thing.mark r.0) k r.2 })
      (λ p. let r = looked-out x.places f.places k p in record { thing = Thing.place r.0; touched = ap (is_in (Thing.place r.0)) here ∙ r.1; last = found-is (Thing.place r.0) k r.2 })
      (one-either k (looked_up x.marks f.marks) (looked_up x.places f.places) h)

  -- and each cause of it is found
  pub found-cause : (k : ℕ) → IsCause ts k j → IsOneOf k (causes x f)
  found-cause k c = on c.thing (sym (ap (is_in c.thing) here) ∙ c.touched) (is-found c.thing k c.last)
    where
      on : (t : Thing) → is_in t f ≡ true → found_in x t ≡ Some k → IsOneOf k (causes x f)
      on (Thing.mark q) touched is = one-left k (looked_up x.marks f.marks) (looked_up x.places f.places) (looked-in x.marks f.marks q k touched is)
      on (Thing.place q) touched is = one-right k (looked_up x.marks f.marks) (looked_up x.places f.places) (looked-in x.places f.places q k touched is)
