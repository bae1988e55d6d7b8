-- The greatest of counts, one after another.
use Rattle.std.proofs.Common.{◌≡◌, ◌<◌, ◌≤◌, ◌+◌, ℕ, Bool, true, false, nat_lt, max, refl, ap, arith}

-- where no count so far is greater than this, none is with one more, but for that one
pub one-more : (count : ℕ → ℕ) (most here greatest i : ℕ) → ((s : ℕ) → s < i → count s ≤ most) → here ≡ count i → greatest ≡ max most here
    → (s : ℕ) → s < i + 1 → count s ≤ greatest
one-more count most here greatest i before is greater s within = by_case (nat_lt s i) refl
  where
    by_case : (t : Bool) → nat_lt s i ≡ t → count s ≤ greatest
    by_case true h = let below : s < i = grind (arith, h) in let few = before s below in grind (arith, few, greater)
    by_case false h = let last : s ≡ i = grind (arith, h, within) in let same : count s ≡ count i = ap count last in grind (arith, same, is, greater)
