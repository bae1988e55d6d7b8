-- Checks one after another: the first that fails ends them, with its rule and its place (docs/LANGUAGE.md, "Types").
use Rattle.std.specs.Prelude.{ℕ, Bool, true, false, Option, None, Some, Result, Ok, Err, List, [], ◌∷◌}
use Rattle.np_types.specs.declared.fault.Rule.{Rule}
use Rattle.np_types.specs.declared.fault.TypeFault.{TypeFault}

-- what a check gives, or the first fault
abbrev pub Check : Type 0 → Type 0
Check A = Result A TypeFault

-- goes on where the test is met
abbrev pub ensure : Bool → ℕ → Rule → Check (Unit {0})
ensure true at rule = Ok tt
ensure false at rule = Err (record { at = at; rule = rule })

-- gives the value where the test is met
abbrev pub checked : {A : Type 0} → Bool → ℕ → Rule → A → Check A
checked true at rule a = Ok a
checked false at rule a = Err (record { at = at; rule = rule })

-- goes on with the value where there is one
abbrev pub want : {A : Type 0} → Option A → ℕ → Rule → Check A
want (Some a) at rule = Ok a
want None at rule = Err (record { at = at; rule = rule })

-- the faults that a check finds: none or one
abbrev pub found : {A : Type 0} → Check A → List TypeFault
found (Ok a) = []
found (Err f) = f ∷ []
