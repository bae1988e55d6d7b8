-- A list in order, by a test that says which of two elements comes before the other.
use Rattle.std.specs.Prelude.{◌≡◌, Bool, false, List, [], ◌∷◌, if◌then◌else◌}
use Rattle.std.specs.List.{AllByRecursion}

-- the list with x behind the elements that come before it
abbrev pub put_in : {X : Type 0} → (X → X → Bool) → X → List X → List X
put_in before x [] = x ∷ []
put_in before x (y ∷ ys) = if before y x then y ∷ put_in before x ys else x ∷ y ∷ ys

-- the elements in order; those of which neither comes before the other stay in the order that they have
abbrev pub in_order : {X : Type 0} → (X → X → Bool) → List X → List X
in_order before [] = []
in_order before (x ∷ xs) = put_in before x (in_order before xs)

-- no element comes before an earlier one
abbrev pub Ascends : {X : Type 0} → (X → X → Bool) → List X → Type 0
Ascends before [] = Unit {0}
Ascends before (x ∷ xs) = AllByRecursion (λ y. before y x ≡ false) xs × Ascends before xs
