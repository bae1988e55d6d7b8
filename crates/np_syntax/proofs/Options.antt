-- What a chain of conditions that gave a value says of each of its steps, and whether there is a value.
use Rattle.std.proofs.Common.{◌≡◌, Bool, true, false, Option, None, Some, IsSome, refl}
use Rattle.np_syntax.specs.Options.{◌>>=◌, ◌>>◌, need}

-- the first step of a chain, and the rest of it
pub record Passed {A B : Type 0} (o : Option A) (f : A → Option B) (b : B) : Type 0 where
  pub value : A
  pub is : o ≡ Some value
  pub rest : f value ≡ Some b

pub needed : {B : Type 0} (t : Bool) (o : Option B) {b : B} → (need t >> o) ≡ Some b → (t ≡ true) × (o ≡ Some b)
needed true o e = (refl, e)
needed false o e = absurd cc

-- the same for the steps of a long chain, where each step's value is a variable
pub then : {A B C : Type 0} (o : Option A) (f : A → Option B) {b : B} → (o >>= f) ≡ Some b → ((a : A) → o ≡ Some a → f a ≡ Some b → C) → C
then None f e k = absurd cc
then (Some a) f e k = k a refl e

pub when : {B C : Type 0} (t : Bool) (o : Option B) {b : B} → (need t >> o) ≡ Some b → (t ≡ true → o ≡ Some b → C) → C
when true o e k = k refl e
when false o e k = absurd cc

pub done : {A : Type 0} {x y : A} → Some x ≡ Some y → y ≡ x
done e = cc

pub none_there : {X : Type 0} (o : Option X) → IsSome o → o ≡ None → ⊥
none_there None h e = cc
none_there (Some x) h e = cc

pub there-is : {X : Type 0} (o : Option X) → IsSome o → (x : X) × (o ≡ Some x)
there-is None h = absurd cc
there-is (Some x) h = (x, refl)

pub none_of : {X : Type 0} (o : Option X) → (IsSome o → ⊥) → o ≡ None
none_of None h = refl
none_of (Some x) h = absurd (h refl)

pub some_is : {T : Type 0} (o : Option T) (x y : T) → o ≡ Some x → o ≡ Some y → x ≡ y
some_is o x y e f = cc
