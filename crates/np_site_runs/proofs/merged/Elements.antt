-- One of the elements of a list.
use Rattle.std.proofs.Common.{◌≡◌, ◌<◌, ◌⊎◌, inl, inr, ⊎_elim, ℕ, zero, suc, Bool, true, false, cond, List, [], ◌∷◌, ◌++◌, map, filter, subst, arith}
use Rattle.std.proofs.lemmas.Bool.Decides.{nat_tests}
use Rattle.std.specs.List.{AllByRecursion}
use Rattle.np_calculus.specs.FrameRule.{Every}
use Rattle.np_site_runs.specs.merged.Links.{over}
use Rattle.np_site_runs.specs.merged.Elements.{Occurs}

module _ {A : Type 0} where
  pub occurs-map : (P Q : A → Type 0) → ((x : A) → P x → Q x) → (xs : List A) → Occurs P xs → Occurs Q xs
  occurs-map P Q f [] h = h
  occurs-map P Q f (x ∷ xs) (inl h) = inl (f x h)
  occurs-map P Q f (x ∷ xs) (inr h) = inr (occurs-map P Q f xs h)

  pub occurs-first : (P : A → Type 0) (xs ys : List A) → Occurs P xs → Occurs P (xs ++ ys)
  occurs-first P (x ∷ xs) ys (inl h) = inl h
  occurs-first P (x ∷ xs) ys (inr h) = inr (occurs-first P xs ys h)
  occurs-first P [] ys h = absurd h

  pub occurs-second : (P : A → Type 0) (xs ys : List A) → Occurs P ys → Occurs P (xs ++ ys)
  occurs-second P [] ys h = h
  occurs-second P (x ∷ xs) ys h = inr (occurs-second P xs ys h)

  pub occurs-either : (P : A → Type 0) (xs ys : List A) → Occurs P (xs ++ ys) → Occurs P xs ⊎ Occurs P ys
  occurs-either P [] ys h = inr h
  occurs-either P (x ∷ xs) ys (inl h) = inl (inl h)
  occurs-either P (x ∷ xs) ys (inr h) = ⊎_elim (λ i. inl (inr i)) (λ i. inr i) (occurs-either P xs ys h)

  pub occurs-not : (P Q : A → Type 0) → ((x : A) → P x → Q x → ⊥) → (xs : List A) → Every P xs → Occurs Q xs → ⊥
  occurs-not P Q f [] all h = h
  occurs-not P Q f (x ∷ xs) all (inl h) = f x all.0 h
  occurs-not P Q f (x ∷ xs) all (inr h) = occurs-not P Q f xs all.1 h

  pub occurs-filter : (P : A → Type 0) (q : A → Bool) (xs : List A) → Occurs P (filter q xs) → Occurs P xs
  occurs-filter P q [] h = h
  occurs-filter P q (x ∷ xs) h = at (q x) h (occurs-filter P q xs)
    where
      at : (b : Bool) → Occurs P (cond b (x ∷ filter q xs) (filter q xs)) → (Occurs P (filter q xs) → Occurs P xs) → Occurs P (x ∷ xs)
      at true (inl h) more = inl h
      at true (inr h) more = inr (more h)
      at false h more = inr (more h)

  pub occurs-if : (P : A → Type 0) (b : Bool) (xs : List A) → Occurs P (cond b xs []) → Occurs P xs
  occurs-if P true xs h = h
  occurs-if P false xs h = absurd h

  -- what holds of each element holds of one of them
  pub every-occurs : (P : A → Type 0) (x : A) (xs : List A) → AllByRecursion P xs → Occurs (λ y. y ≡ x) xs → P x
  every-occurs P x [] all h = absurd h
  every-occurs P x (y ∷ ys) all (inl h) = subst P h all.0
  every-occurs P x (y ∷ ys) all (inr h) = every-occurs P x ys all.1 h

-- ---- lists of the numbers below n

pub last-or_before : (u n : ℕ) → u < suc n → (u ≡ n) ⊎ (u < n)
last-or_before u n less = grind (arith, nat_tests)

module _ {A : Type 0} (P : A → Type 0) where
  pub occurs-mapped : {B : Type 0} (f : B → A) (xs : List B) → Occurs P (map f xs) → Occurs (λ x. P (f x)) xs
  occurs-mapped f [] h = h
  occurs-mapped f (x ∷ xs) (inl h) = inl h
  occurs-mapped f (x ∷ xs) (inr h) = inr (occurs-mapped f xs h)

  pub mapped-occurs : {B : Type 0} (f : B → A) (xs : List B) → Occurs (λ x. P (f x)) xs → Occurs P (map f xs)
  mapped-occurs f [] h = h
  mapped-occurs f (x ∷ xs) (inl h) = inl h
  mapped-occurs f (x ∷ xs) (inr h) = inr (mapped-occurs f xs h)

  pub occurs-over : (n : ℕ) (f : ℕ → List A) → Occurs P (over n f) → (u : ℕ) × (u < n) × Occurs P (f u)
  occurs-over zero f h = absurd h
  occurs-over (suc n) f h = ⊎_elim (λ i. (n, omega arith, i)) (λ i. let t = occurs-over n f i in let less : t.0 < n = t.1 in (t.0, omega arith, t.2)) (occurs-either P (f n) (over n f) h)

  pub over-occurs : (n : ℕ) (f : ℕ → List A) (u : ℕ) → u < n → Occurs P (f u) → Occurs P (over n f)
  over-occurs zero f u less h = absurd (omega arith)
  over-occurs (suc n) f u less h = ⊎_elim
      (λ same. occurs-first P (f n) (over n f) (subst (λ u. Occurs P (f u)) same h))
      (λ lower. occurs-second P (f n) (over n f) (over-occurs n f u lower h))
      (last-or_before u n less)
