-- One of the elements of a list.
use Rattle.std.specs.Prelude.{◌⊎◌, List, [], ◌∷◌}

-- this holds of one of the elements
abbrev pub Occurs : {A : Type 0} → (A → Type 0) → List A → Type 0
Occurs P [] = ⊥
Occurs P (x ∷ xs) = P x ⊎ Occurs P xs
