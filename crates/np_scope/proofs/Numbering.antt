-- The next numbers in order: where they lie, and that none is there twice.
use Rattle.std.proofs.Common.{◌≤◌, ℕ, ◌+◌, inl, inr, List, ◌++◌, arith}
use Rattle.np_scope.specs.Sound.{Among, AllBelow, NoneTwice, AreNext}

pub next_then : {next mid after : ℕ} {xs ys : List ℕ} → AreNext next xs mid → AreNext mid ys after → AreNext next (xs ++ ys) after
next_then AreNext.none k = k
next_then (AreNext.more h) k = AreNext.more (next_then h k)

next_rises : {next after : ℕ} {xs : List ℕ} → AreNext next xs after → next ≤ after
next_rises AreNext.none = omega arith
next_rises (AreNext.more h) = let e = next_rises h in omega arith

next_from : {next after : ℕ} {xs : List ℕ} → AreNext next xs after → (x : ℕ) → Among x xs → next ≤ x
next_from AreNext.none x a = absurd a
next_from (AreNext.more h) x (inl e) = omega (arith, e)
next_from (AreNext.more h) x (inr a) = let e = next_from h x a in omega arith

pub next_below : {next after : ℕ} {xs : List ℕ} → AreNext next xs after → AllBelow after xs
next_below AreNext.none = tt
next_below (AreNext.more h) = let e = next_rises h in (omega arith, next_below h)

pub next_once : {next after : ℕ} {xs : List ℕ} → AreNext next xs after → NoneTwice xs
next_once AreNext.none = tt
next_once (AreNext.more {next = next} h) = ((λ a. let e = next_from h next a in omega arith), next_once h)
