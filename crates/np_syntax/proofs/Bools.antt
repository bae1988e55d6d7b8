-- Conjunctions of truth values.
use Rattle.std.proofs.Common.{◌≡◌, Bool, true, false, ◌&&◌, refl}

pub and-in : {a b : Bool} → a ≡ true → b ≡ true → (a && b) ≡ true
and-in {a} {b} h k = rw (h, k) refl

pub and-out : (a b : Bool) → (a && b) ≡ true → (a ≡ true) × (b ≡ true)
and-out true b h = (refl, h)
and-out false b h = absurd cc

pub and-true : (b : Bool) → (b && true) ≡ b
and-true true = refl
and-true false = refl

pub and-false : (b : Bool) → (b && false) ≡ false
and-false true = refl
and-false false = refl

pub clash : {b : Bool} → b ≡ false → b ≡ true → ⊥
clash fails passes = cc
