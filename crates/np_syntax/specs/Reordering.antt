-- Lists in another order.
use Rattle.std.specs.Prelude.{List, ◌∷◌}

-- the same elements in another order
pub data Reordered {A : Type 0} : List A → List A → Type 0 where
  kept : {xs : List A} → Reordered xs xs
  behind : {x : A} {xs ys : List A} → Reordered xs ys → Reordered (x ∷ xs) (x ∷ ys)
  swapped : {x y : A} {xs : List A} → Reordered (x ∷ y ∷ xs) (y ∷ x ∷ xs)
  and_then : {xs ys zs : List A} → Reordered xs ys → Reordered ys zs → Reordered xs zs
