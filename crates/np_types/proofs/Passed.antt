-- What a check that passed says of each of its steps.
use Rattle.std.proofs.Common.{◌≡◌, ℕ, Bool, true, false, Option, None, Some, Ok, refl}
use Rattle.np_types.specs.declared.fault.Rule.{Rule}
use Rattle.np_syntax.specs.Results.{◌>>=◌, ◌>>◌}
use Rattle.np_types.specs.Checks.{Check, ensure, want}

pub ensured : (t : Bool) (at : ℕ) (rule : Rule) {u : Unit {0}} → ensure t at rule ≡ Ok u → t ≡ true
ensured true at rule h = refl
ensured false at rule h = absurd cc

pub wanted : {A : Type 0} (o : Option A) (at : ℕ) (rule : Rule) {a : A} → want o at rule ≡ Ok a → o ≡ Some a
wanted None at rule h = absurd cc
wanted (Some a) at rule h = cc

-- a test that passed, and what follows it
pub when : {B C : Type 0} (t : Bool) (at : ℕ) (rule : Rule) (o : Check B) {b : B} → (ensure t at rule >> o) ≡ Ok b → (t ≡ true → o ≡ Ok b → C) → C
when true at rule o h k = k refl h
when false at rule o h k = absurd cc

pub take : {A B C : Type 0} (o : Option A) (at : ℕ) (rule : Rule) (f : A → Check B) {b : B} → (want o at rule >>= f) ≡ Ok b → ((a : A) → o ≡ Some a → f a ≡ Ok b → C) → C
take None at rule f h k = absurd cc
take (Some a) at rule f h k = k a refl h
