-- Implications of truth values.
use Rattle.std.proofs.Common.{◌≡◌, Bool, true, false, refl}
use Rattle.np_subtyping.specs.Sub.{◌⇒◌}

pub imp-in : (a b : Bool) → (a ≡ true → b ≡ true) → (a ⇒ b) ≡ true
imp-in true b h = h refl
imp-in false b h = refl

pub imp-out : (a b : Bool) → (a ⇒ b) ≡ true → a ≡ true → b ≡ true
imp-out true b h e = h
imp-out false b h e = absurd cc
