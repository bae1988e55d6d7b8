-- What stands at a place of what a table is filled in with.
use Rattle.std.proofs.Common.{◌≡◌, ◌<◌, ◌≤◌, ◌+◌, ◌-◌, ℕ, zero, suc, List, [], ◌∷◌, Some, length, map, slice_get, slice_index_or, refl, ap, ◌∙◌, arith}
use Rattle.np_syntax.specs.declared.expression.Expr.{Expr}
use Rattle.infrastructure_texts.specs.Filling.{nth_binder, nth_given}

pub nth-get : {A : Type 0} (f : A → Expr) (xs : List A) (i : ℕ) (x : A) → slice_get xs i ≡ Some x → nth_given (map f xs) i ≡ f x
nth-get f [] i x h = absurd cc
nth-get f (y ∷ ys) zero x h = let same : y ≡ x = cc in ap f same
nth-get f (y ∷ ys) (suc i) x h = nth-get f ys i x h

pub nth-below : (bs : List ℕ) (next k d : ℕ) → k < length bs → slice_index_or bs k d ≡ nth_binder bs next k
nth-below [] next k d h = absurd (omega (arith, h))
nth-below (b ∷ bs) next zero d h = refl
nth-below (b ∷ bs) next (suc k) d h = nth-below bs next k d (omega (arith, h))

pub nth-past : (bs : List ℕ) (next k : ℕ) → length bs ≤ k → nth_binder bs next k ≡ next + (k - length bs)
nth-past [] next zero h = omega arith
nth-past [] next (suc k) h = omega arith
nth-past (b ∷ bs) next zero h = absurd (let bad : ⊥ = omega (arith, h) in bad)
nth-past (b ∷ bs) next (suc k) h = nth-past bs next k (omega (arith, h)) ∙ (let e : next + (k - length bs) ≡ next + (suc k - suc (length bs)) = omega arith in e)
