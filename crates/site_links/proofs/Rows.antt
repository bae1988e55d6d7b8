-- Reading a list after one of its places was written.
use Rattle.std.proofs.Common.{◌≡◌, ◌≢◌, ℕ, ◌+◌, ◌<◌, ◌≤◌, ◌⊎◌, List, [], ◌∷◌, ◌++◌, length, set, refl, sym, ap, subst, arith, Option, Some, zero, suc, inl, inr}
use Rattle.std.specs.Prelude.{slice_get}
use Rattle.std.proofs.lemmas.Grind.{common_steps}
use Rattle.std.proofs.lemmas.List.{append-nil, get_or-set_same}
use Rattle.std.proofs.lemmas.Option.{slice_get-get_or, slice_get_within}
use Rattle.std.proofs.lemmas.Bool.{eq-eqb}
use Rattle.std.proofs.lemmas.Bool.Decides.{eqb_tells}
use Rattle.site_links.specs.Words.{only_at}
use Rattle.site_links.specs.Seats.{read}

pub get-set_same : {T : Type 0} (xs : List T) (i : ℕ) (y : T) → i < length xs → slice_get (set xs i y) i ≡ Some y
get-set_same xs i y h = grind (arith, common_steps, slice_get-get_or (set xs i y) i y, get_or-set_same xs i y y)

pub get-set_other : {T : Type 0} (xs : List T) (i k : ℕ) (y : T) → k ≢ i → slice_get (set xs i y) k ≡ slice_get xs k
get-set_other [] i k y h = refl
get-set_other (x ∷ xs) zero zero y h = absurd (h refl)
get-set_other (x ∷ xs) zero (suc k) y h = refl
get-set_other (x ∷ xs) (suc i) zero y h = refl
get-set_other (x ∷ xs) (suc i) (suc k) y h = get-set_other xs i k y (λ e. h (ap suc e))

pub get-push_old : {T : Type 0} (xs : List T) (k : ℕ) (x y : T) → slice_get xs k ≡ Some x → slice_get (xs ++ y ∷ []) k ≡ Some x
get-push_old [] k x y h = cc
get-push_old (z ∷ xs) zero x y h = h
get-push_old (z ∷ xs) (suc k) x y h = get-push_old xs k x y h

get-push_last : {T : Type 0} (xs : List T) (y : T) → slice_get (xs ++ y ∷ []) (length xs) ≡ Some y
get-push_last [] y = refl
get-push_last (z ∷ xs) y = get-push_last xs y

pub get-push_at : {T : Type 0} (xs : List T) (n : ℕ) (y : T) → length xs ≡ n → slice_get (xs ++ y ∷ []) n ≡ Some y
get-push_at xs n y e = subst (λ (m : ℕ). slice_get (xs ++ y ∷ []) m ≡ Some y) e (get-push_last xs y)

pub get-push_cases : {T : Type 0} (xs : List T) (k : ℕ) (y v : T) → slice_get (xs ++ y ∷ []) k ≡ Some v → (slice_get xs k ≡ Some v) ⊎ ((k ≡ length xs) × (v ≡ y))
get-push_cases [] zero y v h = inr (refl, cc)
get-push_cases [] (suc k) y v h = cc
get-push_cases (z ∷ xs) zero y v h = inl h
get-push_cases (z ∷ xs) (suc k) y v h =
    elim (get-push_cases xs k y v h) [ inl a ↦ inl a | inr b ↦ inr (ap suc b.0, b.1) ]

pub only_at-same : {T : Type 0} (k : ℕ) (x : T) → only_at k k x ≡ x ∷ []
only_at-same k x = rw (eq-eqb k k refl) refl

pub only_at-other : {T : Type 0} (k i : ℕ) (x : T) → k ≢ i → only_at k i x ≡ []
only_at-other k i x h = elim (eqb_tells k i) [ inl w ↦ absurd (h w.1) | inr w ↦ rw w.0 refl ]

-- a fact of each place, from that of the place that was written and that of the others
pub rows_set : {T : Type 0} (R : ℕ → Option T → Option T → Type 0) (xs : List T) (i : ℕ) (x y : T) → slice_get xs i ≡ Some x → R i (Some x) (Some y)
    → ((k : ℕ) (o : Option T) → k ≢ i → R k o o) → (k : ℕ) → R k (slice_get xs k) (slice_get (set xs i y) k)
rows_set R xs i x y e here there k =
    elim (eqb_tells k i) [
      | inl w ↦
          let same : slice_get (set xs i y) i ≡ Some y = get-set_same xs i y (slice_get_within xs i x e) in
          rw (w.1, e, same) here
      | inr w ↦ rw (get-set_other xs i k y w.1) (there k (slice_get xs k) w.1)
    ]

module _ {T X : Type 0} (f : T → X) (d : X) (xs : List T) (i : ℕ) (x y : T) (was : slice_get xs i ≡ Some x) where
  pub rows_same : f y ≡ f x → (k : ℕ) → read f d (slice_get (set xs i y) k) ≡ read f d (slice_get xs k)
  rows_same e k = rows_set (λ (k : ℕ) (o : Option T) (p : Option T). read f d p ≡ read f d o) xs i x y was e (λ k o h. refl) k

  pub rows_others : (k : ℕ) → k ≢ i → read f d (slice_get (set xs i y) k) ≡ read f d (slice_get xs k)
  rows_others k h = ap (read f d) (get-set_other xs i k y h)

  pub rows_here : read f d (slice_get (set xs i y) i) ≡ f y
  rows_here = ap (read f d) (get-set_same xs i y (slice_get_within xs i x was))

  pub rows_was : read f d (slice_get xs i) ≡ f x
  rows_was = ap (read f d) was

-- one more item at the place
pub rows_more : {T I : Type 0} (f : T → List I) (xs : List T) (i : ℕ) (x y : T) (item : I) → slice_get xs i ≡ Some x → f y ≡ f x ++ item ∷ []
    → (k : ℕ) → read f [] (slice_get (set xs i y) k) ≡ read f [] (slice_get xs k) ++ only_at k i item
rows_more {T} {I} f xs i x y item was e k =
    rows_set (λ (k : ℕ) (o : Option T) (p : Option T). read f [] p ≡ read f [] o ++ only_at k i item) xs i x y was
    (rw (only_at-same i item) e) (λ k o h. rw (only_at-other k i item h) (sym (append-nil (read f [] o)))) k

-- at most one less at the place
pub rows_less : {T I : Type 0} (f : T → ℕ) (xs : List T) (i : ℕ) (x y : T) (item : I) → slice_get xs i ≡ Some x → f x ≤ f y + 1
    → (k : ℕ) → read f 0 (slice_get xs k) ≤ read f 0 (slice_get (set xs i y) k) + length (only_at k i item)
rows_less {T} {I} f xs i x y item was e k =
    rows_set (λ (k : ℕ) (o : Option T) (p : Option T). read f 0 o ≤ read f 0 p + length (only_at k i item)) xs i x y was
    (rw (only_at-same i item) e) (λ k o h. omega arith) k
