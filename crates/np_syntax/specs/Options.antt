-- A value or none, step by step: what a chain of conditions gives.
use Rattle.std.specs.Prelude.{Bool, true, false, Option, None, Some, List, [], ◌∷◌}

infixl 10 ◌>>=◌
abbrev pub ◌>>=◌ : {A B : Type 0} → Option A → (A → Option B) → Option B
None >>= f = None
(Some a) >>= f = f a

infixl 10 ◌>>◌
abbrev pub ◌>>◌ : {A B : Type 0} → Option A → Option B → Option B
o >> p = o >>= (λ _. p)

-- goes on where the test is met
abbrev pub need : Bool → Option (Unit {0})
need true = Some tt
need false = None

-- all of them, or none
abbrev pub all_some : {A : Type 0} → List (Option A) → Option (List A)
all_some [] = Some []
all_some (o ∷ os) = do
  a ← o
  rest ← all_some os
  Some (a ∷ rest)
