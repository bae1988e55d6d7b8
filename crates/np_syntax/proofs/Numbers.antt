-- Numbers, compared.
use Rattle.std.proofs.Common.{◌≡◌, ◌<◌, ℕ, nat_eq, arith}
use Rattle.std.proofs.Props.{props}
use Rattle.std.proofs.lemmas.Bool.Decides.{nat_tests}

pub nat_eq-turned : (a b : ℕ) → nat_eq a b ≡ nat_eq b a
nat_eq-turned a b = grind (arith, nat_tests)

pub lt-prop : (a b : ℕ) → IsProp (a < b)
lt-prop a b = Prim.hlevel props
