-- Walks over the characters of some bytes.
use Rattle.std.proofs.Common.{◌≡◌, ℕ, suc, ◌+◌, ◌-◌, ◌<◌, ◌≤◌, List, [], ◌++◌, drop, ap, arith}
use Rattle.source_places.specs.Places.{begins, begun}
use Rattle.source_places.specs.Shown.{front_len, shown_front, shown_some}

-- one character more is shown
pub shown-step : (n i : ℕ) (rest : List ℕ) → i < n → shown_some (n - i) rest ≡ shown_front rest ++ shown_some (n - (i + 1)) (drop (front_len rest) rest)
unfolding shown_some
shown-step n i rest h = let e : n - i ≡ suc (n - (i + 1)) = omega arith in ap (λ k. shown_some k rest) e

-- one character more begins
pub begun-step : (n i before : ℕ) (rest : List ℕ) → i < n → begun (n - i) rest before ≡ begins before (front_len rest) + begun (n - (i + 1)) (drop (front_len rest) rest) (before - front_len rest)
unfolding begun
begun-step n i before rest h = let e : n - i ≡ suc (n - (i + 1)) = omega arith in ap (λ k. begun k rest before) e

-- behind the last one
pub shown-none : (n i : ℕ) (rest : List ℕ) → n ≤ i → shown_some (n - i) rest ≡ []
unfolding shown_some
shown-none n i rest h = let e : n - i ≡ 0 = omega arith in ap (λ k. shown_some k rest) e

pub begun-none : (n i before : ℕ) (rest : List ℕ) → n ≤ i → begun (n - i) rest before ≡ 0
unfolding begun
begun-none n i before rest h = let e : n - i ≡ 0 = omega arith in ap (λ k. begun k rest before) e
