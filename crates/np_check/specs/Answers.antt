-- What the checks in code answer: what a check gives, or the first fault (docs/LANGUAGE.md, "Types"). Want of memory
-- may be answered in the place of either.
use Rattle.std.specs.Prelude.{◌≡◌, Result, Ok, Err}
use Rattle.np_types.specs.declared.fault.TypeFault.{TypeFault}
use Rattle.np_types.specs.declared.fault.LeastFail.{LeastFail}
use Rattle.np_types.specs.declared.fault.LeastFail.TheVariants as least
use Rattle.np_types.specs.Checks.{Check}
use Rattle.np_types.specs.Least.{Types}
use Rattle.np_check.specs.declared.fail.CheckFail.{CheckFail}
use Rattle.np_check.specs.declared.fail.CheckFail.TheVariants as fail

-- a fault is the first one
abbrev pub Refuses : {A : Type 0} → Check A → CheckFail → Type 0
Refuses o e = (f : TypeFault) → e ≡ fail.TypeFault f → o ≡ Err f

abbrev pub Gives : {A : Type 0} → Check A → Result A CheckFail → Type 0
Gives o (Ok a) = o ≡ Ok a
Gives o (Err e) = Refuses o e

-- an answer that leaves these types of binders
abbrev pub GivesTypes : {A : Type 0} → Check Types → Types → Result A CheckFail → Type 0
GivesTypes o env (Ok a) = o ≡ Ok env
GivesTypes o env (Err e) = Refuses o e

-- the same failure
abbrev pub handed : LeastFail → CheckFail
handed (least.Fault f) = fail.TypeFault f
handed least.Memory = fail.Memory
