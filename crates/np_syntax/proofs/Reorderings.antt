-- A list may be put in another order piece by piece.
use Rattle.std.proofs.Common.{List, [], ◌∷◌, ◌++◌}
use Rattle.np_syntax.specs.Reordering.{Reordered, and_then, behind, kept, swapped}

module _ {A : Type 0} where
  pub reorder-back : {xs ys : List A} → Reordered xs ys → Reordered ys xs
  reorder-back kept = kept
  reorder-back (behind p) = behind (reorder-back p)
  reorder-back swapped = swapped
  reorder-back (and_then p r) = and_then (reorder-back r) (reorder-back p)

  pub reorder-before : (xs : List A) {ys zs : List A} → Reordered ys zs → Reordered (xs ++ ys) (xs ++ zs)
  reorder-before [] p = p
  reorder-before (x ∷ xs) p = behind (reorder-before xs p)

  pub reorder-after : {xs ys : List A} (zs : List A) → Reordered xs ys → Reordered (xs ++ zs) (ys ++ zs)
  reorder-after zs kept = kept
  reorder-after zs (behind p) = behind (reorder-after zs p)
  reorder-after zs swapped = swapped
  reorder-after zs (and_then p r) = and_then (reorder-after zs p) (reorder-after zs r)

  -- an element in the middle comes first
  pub reorder-up : (xs : List A) (y : A) (zs : List A) → Reordered (xs ++ (y ∷ zs)) (y ∷ (xs ++ zs))
  reorder-up [] y zs = kept
  reorder-up (x ∷ xs) y zs = and_then (behind (reorder-up xs y zs)) swapped

  -- and so do more
  pub reorder-front : (xs ys zs : List A) → Reordered (xs ++ (ys ++ zs)) (ys ++ (xs ++ zs))
  reorder-front xs [] zs = kept
  reorder-front xs (y ∷ ys) zs = and_then (reorder-up xs y (ys ++ zs)) (behind (reorder-front xs ys zs))
