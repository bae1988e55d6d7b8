-- What is taken from a link or put on one leaves and joins the items under way.
use Rattle.std.proofs.Common.{◌≡◌, ◌<◌, ℕ, zero, suc, Bool, true, false, ◌&&◌, nat_eq, List, [], ◌∷◌, ◌++◌, map, Option, None, Some, refl, ap, sym, subst, ◌∙◌, arith}
use Rattle.std.proofs.lemmas.Bool.{eqb-true, eq-eqb}
use Rattle.np_calculus.proofs.Common.{◌>>=◌, Contents}
use Rattle.np_calculus.specs.Reductions.{run}
use Rattle.np_syntax.specs.Reordering.{Reordered, and_then, behind, kept, swapped}
use Rattle.np_site_runs.specs.merged.Links.{Item, Linked, Links, MergedRun, Move, MovesTo, Puts, Takes, air, loads, over, spread, with_link}
use Rattle.np_site_runs.specs.merged.Steps.{IsSpread, Step, StepsTo}
use Rattle.np_syntax.proofs.Reorderings.{reorder-after, reorder-back, reorder-before, reorder-up}
use Rattle.np_site_runs.proofs.merged.Steps.{false_eq, not_eq, step_spread}

module _ {A : Type 0} (f g : ℕ → List A) where
  over-same : (n : ℕ) → ((u : ℕ) → u < n → f u ≡ g u) → over n f ≡ over n g
  over-same zero h = refl
  over-same (suc n) h = ap (λ xs. xs ++ over n f) (h n (omega arith)) ∙ ap (λ ys. g n ++ ys) (over-same n λ u less. h u (omega arith))

  -- where one of many lists has an element more, together of them have
  over-more : (x : A) (s n : ℕ) → s < n → Reordered (f s) (x ∷ g s) → ((u : ℕ) → (u ≡ s → ⊥) → f u ≡ g u) → Reordered (over n f) (x ∷ over n g)
  over-more x s zero h p q = absurd (omega arith)
  over-more x s (suc n) h p q = one (nat_eq n s) refl (λ less. over-more x s n less p q)
    where
      one : (t : Bool) → nat_eq n s ≡ t → (s < n → Reordered (over n f) (x ∷ over n g)) → Reordered (f n ++ over n f) (x ∷ (g n ++ over n g))
      one true e more =
          let is : n ≡ s = eqb-true n s e in
          let rest : over n f ≡ over n g = over-same n λ u less. q u λ same. omega arith in
          subst (λ xs. Reordered (f n ++ over n f) (x ∷ (g n ++ xs))) rest (reorder-after (over n f) (subst (λ u. Reordered (f u) (x ∷ g u)) (sym is) p))
      one false e more =
          let apart : (n ≡ s → ⊥) = not_eq n s e in
          subst (λ xs. Reordered (xs ++ over n f) (x ∷ (g n ++ over n g))) (sym (q n apart)) (and_then (reorder-before (g n) (more (omega arith))) (reorder-up (g n) x (over n g)))

abbrev loads_of : List Item → List Contents
loads_of xs = map (λ x. x.load) xs

module _ (n : ℕ) (link : Links) (s t : ℕ) (within : s < n) (to : t < n) where
  here_now : (xs : List Item) → with_link link s t xs s t ≡ xs
  here_now xs = rw (eq-eqb s s refl, eq-eqb t t refl) refl

  row_stays : (xs : List Item) (u v : ℕ) → (u ≡ s → ⊥) → with_link link s t xs u v ≡ link u v
  row_stays xs u v h = rw (false_eq u s h) refl

  and_false : (b : Bool) → (b && false) ≡ false
  and_false true = refl
  and_false false = refl

  column_stays : (xs : List Item) (v : ℕ) → (v ≡ t → ⊥) → with_link link s t xs s v ≡ link s v
  column_stays xs v h = rw (false_eq v t h, and_false (nat_eq s s)) refl

  -- a link that has an item more
  link-more : (x : Contents) (xs : List Item) → Reordered (loads_of xs) (x ∷ loads_of (link s t)) → Reordered (air n (with_link link s t xs)) (x ∷ air n link)
  link-more x xs p =
      over-more _ _ x s n within
      (over-more _ _ x t n to (subst (λ zs. Reordered (loads_of zs) (x ∷ loads_of (link s t))) (sym (here_now xs)) p) (λ v apart. ap loads_of (column_stays xs v apart)))
      (λ u apart. over-same _ _ n λ v less. ap loads_of (row_stays xs u v apart))

  -- and one that has an item less
  link-less : (x : Contents) (xs : List Item) → Reordered (loads_of (link s t)) (x ∷ loads_of xs) → Reordered (air n link) (x ∷ air n (with_link link s t xs))
  link-less x xs p =
      over-more _ _ x s n within
      (over-more _ _ x t n to (subst (λ zs. Reordered (loads_of (link s t)) (x ∷ loads_of zs)) (sym (here_now xs)) p) (λ v apart. ap loads_of (sym (column_stays xs v apart))))
      (λ u apart. over-same _ _ n λ v less. ap loads_of (sym (row_stays xs u v apart)))

loads-end : (xs : List Item) (x : Item) → Reordered (loads_of (xs ++ x ∷ [])) (x.load ∷ loads_of xs)
loads-end [] x = kept
loads-end (y ∷ xs) x = and_then (behind (loads-end xs x)) swapped

pub took : (n s : ℕ) (link after : Links) (o : Option Item) → s < n → Takes n link s o after → Reordered (air n link) (loads o ++ air n after)
took n s link after None within h = subst (λ l. Reordered (air n link) (air n l)) h kept
took n s link after (Some x) within (ys, from, front, is) =
    subst (λ l. Reordered (air n link) (x.load ∷ air n l)) is (link-less n link x.sender s from within x.load ys (subst (λ zs. Reordered (loads_of zs) (x.load ∷ loads_of ys)) (sym front) kept))

sent : (n s : ℕ) (link after : Links) (o : Option Item) → s < n → Puts n link s o after → Reordered (loads o ++ air n link) (air n after)
sent n s link after None within h = subst (λ l. Reordered (air n link) (air n l)) h kept
sent n s link after (Some x) within (to, is) =
    subst (λ l. Reordered (x.load ∷ air n link) (air n l)) is (reorder-back (link-more n link s x.receiver within to x.load (link s x.receiver ++ x ∷ []) (loads-end (link s x.receiver) x)))

abbrev step_of : Move → Step
step_of m = record { event = m.event; taken = loads m.taken; put = loads m.put }

moves-step : (n : ℕ) (g h : Linked) (m : Move) → MovesTo n g m h → StepsTo n (spread n g) (step_of m) (spread n h)
moves-step n g h m i = record {
  within = i.within;
  rest = air n i.between;
  took = took n m.event.site g.link i.between m.taken i.within i.takes;
  now = i.now;
  step = i.step;
  here = i.here;
  left = sent n m.event.site i.between h.link m.put i.within i.puts;
}

pub merged_run : MergedRun
merged_run n [] g h c i r = (c, refl, subst (λ h. IsSpread n (spread n h) c) r i)
merged_run n (m ∷ ms) g h c i (f, moved, rest) =
    let one = step_spread n (spread n g) c i (step_of m) (spread n f) (moves-step n g f m moved) in
    let more = merged_run n ms f h one.0 one.2 rest in
    (more.0, ap (λ o. o >>= λ x. run x (map (λ m. m.event) ms)) one.1 ∙ more.1, more.2)
