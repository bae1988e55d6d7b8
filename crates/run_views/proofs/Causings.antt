-- What is found of the things that an event touches, and what is noted of those that it writes.
use Rattle.std.proofs.Common.{◌≡◌, ◌↔◌, inl, inr, ⊎_elim, ℕ, List, [], ◌∷◌, ◌++◌, Option, None, Some, refl, ap, sym, subst, ◌∙◌, append_assoc, append-nil}
use Rattle.std.specs.FinMap as map
use Rattle.np_syntax.specs.Options.{◌>>=◌}
use Rattle.np_syntax.specs.declared.value.Name.{Name}
use Rattle.np_tables.specs.Names.{NameMap}
use Rattle.np_calculus.specs.Footprints.{listed}
use Rattle.run_views.specs.Index.{Index, IsOneOf, causes, looked_up}
use Rattle.run_views.specs.declared.causing.Causes.{Causes}
use Rattle.run_views.specs.declared.touching.Touched.{Touched}
use Rattle.run_views.specs.Causes.{last_of, places_of}
use Rattle.run_views.specs.Touching.{touched_as}

looked-parts : (t : NameMap ℕ) (xs ys : List Name) → looked_up t (xs ++ ys) ≡ looked_up t xs ++ looked_up t ys
looked-parts t [] ys = refl
looked-parts t (x ∷ xs) ys = ap (λ l. map.get t x ∷ l) (looked-parts t xs ys)

abbrev seen : NameMap ℕ → Option Name → List (Option ℕ)
seen t o = looked_up t (listed o)

more-seen : (t : NameMap ℕ) (o : Option Name) (k : ℕ) (xs ys : List (Option ℕ)) → IsOneOf k xs ↔ IsOneOf k ys → IsOneOf k ((o >>= map.get t) ∷ xs) ↔ IsOneOf k (seen t o ++ ys)
more-seen t None k xs ys h = (λ one. ⊎_elim (λ is. absurd cc) (λ rest. h.0 rest) one, λ rest. inr (h.1 rest))
more-seen t (Some q) k xs ys h = (λ one. ⊎_elim (λ is. inl is) (λ rest. inr (h.0 rest)) one, λ one. ⊎_elim (λ is. inl is) (λ rest. inr (h.1 rest)) one)

causes-seen : (x : Index) (t : Touched) → causes x (touched_as t) ≡ seen x.marks t.actor ++ (seen x.marks t.other ++ (seen x.places t.agent ++ (seen x.places t.asked ++ [])))
causes-seen x t =
    let a : List (Option ℕ) = seen x.marks t.actor in
    let b : List (Option ℕ) = seen x.marks t.other in
    let c : List (Option ℕ) = seen x.places t.agent in
    let d : List (Option ℕ) = seen x.places t.asked in
    (λ i. looked-parts x.marks (listed t.actor) (listed t.other) i ++ looked-parts x.places (listed t.agent) (listed t.asked) i)
    ∙ append_assoc a b (c ++ d) ∙ ap (λ l. a ++ (b ++ (c ++ l))) (sym (append-nil d))

pub causes-found : (x : Index) (t : Touched) (c : Causes) → c.actor ≡ last_of x.marks t.actor → c.other ≡ last_of x.marks t.other → c.agent ≡ last_of x.places t.agent → c.asked ≡ last_of x.places t.asked
    → (k : ℕ) → IsOneOf k (places_of c) ↔ IsOneOf k (causes x (touched_as t))
causes-found x t c actor other agent asked k =
    let a : Option ℕ = last_of x.marks t.actor in
    let b : Option ℕ = last_of x.marks t.other in
    let g : Option ℕ = last_of x.places t.agent in
    let s : Option ℕ = last_of x.places t.asked in
    let places : a ∷ b ∷ g ∷ s ∷ [] ≡ places_of c = λ i. sym actor i ∷ sym other i ∷ sym agent i ∷ sym asked i ∷ [] in
    let z : List (Option ℕ) = seen x.places t.asked ++ [] in
    let y : List (Option ℕ) = seen x.places t.agent ++ z in
    let all = more-seen x.marks t.actor k (b ∷ g ∷ s ∷ []) (seen x.marks t.other ++ y)
    (more-seen x.marks t.other k (g ∷ s ∷ []) y (more-seen x.places t.agent k (s ∷ []) z (more-seen x.places t.asked k [] [] (λ h. h, λ h. h)))) in
    subst (λ l. IsOneOf k l ↔ IsOneOf k (causes x (touched_as t))) places
    (subst (λ l. IsOneOf k (a ∷ b ∷ g ∷ s ∷ []) ↔ IsOneOf k l) (sym (causes-seen x t)) all)
