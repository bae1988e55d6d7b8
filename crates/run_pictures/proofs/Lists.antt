-- Lists that grow by an item.
use Rattle.std.proofs.Common.{◌≡◌, ◌⊎◌, inl, inr, ⊎_elim, ℕ, zero, suc, List, [], ◌∷◌, ◌++◌, length, slice_get, Option, Some, None, refl, ap}
use Rattle.std.specs.Option.{option_to_list}
use Rattle.std.specs.Prelude.{IfSome}
use Rattle.std.specs.List.{AllByRecursion}

-- what stands in a list that got an item stood there before, or is that item
pub push-cases : {X : Type 0} (xs : List X) (x : X) (m : ℕ) (d : X) → slice_get (xs ++ x ∷ []) m ≡ Some d → (slice_get xs m ≡ Some d) ⊎ ((m ≡ length xs) × (x ≡ d))
push-cases [] x zero d h = inr (refl, cc)
push-cases [] x (suc m) d h = absurd cc
push-cases (y ∷ ys) x zero d h = inl h
push-cases (y ∷ ys) x (suc m) d h = ⊎_elim (λ there. inl there) (λ here. inr (ap suc here.0, here.1)) (push-cases ys x m d h)

pub push-last : {X : Type 0} (xs : List X) (x : X) → slice_get (xs ++ x ∷ []) (length xs) ≡ Some x
push-last [] x = refl
push-last (y ∷ ys) x = push-last ys x

pub push-kept : {X : Type 0} (xs : List X) (x d : X) (m : ℕ) → slice_get xs m ≡ Some d → slice_get (xs ++ x ∷ []) m ≡ Some d
push-kept [] x d m h = absurd cc
push-kept (y ∷ ys) x d zero h = h
push-kept (y ∷ ys) x d (suc m) h = push-kept ys x d m h

pub all-with : {X : Type 0} (P : X → Type 0) (xs : List X) (o : Option X) → AllByRecursion P xs → IfSome o P → AllByRecursion P (xs ++ option_to_list o)
all-with P [] None h p = tt
all-with P [] (Some x) h p = (p, tt)
all-with P (x ∷ xs) o h p = (h.0, all-with P xs o h.1 p)
