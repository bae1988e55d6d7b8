-- What a chain of steps that gave a value says of each of its steps.
use Rattle.std.proofs.Common.{◌≡◌, Result, Ok, Err, refl}
use Rattle.np_syntax.specs.Results.{◌>>=◌}

-- each step's value is a variable of what follows
pub then : {A B C E : Type 0} (o : Result A E) (f : A → Result B E) {b : B} → (o >>= f) ≡ Ok b → ((a : A) → o ≡ Ok a → f a ≡ Ok b → C) → C
then (Err e) f h k = absurd cc
then (Ok a) f h k = k a refl h

pub done : {A E : Type 0} {x y : A} → ◌≡◌ {A = Result A E} (Ok x) (Ok y) → y ≡ x
done e = cc
