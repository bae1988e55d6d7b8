-- What stands for a part of a tree, or the first refusal in it: parts are taken in reading order, and the first refusal
-- is that of the whole.
use Rattle.std.specs.Prelude.{◌≡◌, Result, Ok, Err}
use Rattle.np_scope.specs.declared.fail.ScopeFail.{ScopeFail}
use Rattle.np_scope.specs.declared.fail.ScopeFail.TheVariants as fail

abbrev pub Outcome : Type 0 → Type 0
Outcome A = Result A ScopeFail

-- the outcome is answered. Memory may run out at any time.
abbrev pub Gives : {A : Type 0} → Outcome A → Result A ScopeFail → Type 0
Gives outcome (Ok a) = outcome ≡ Ok a
Gives outcome (Err e) = ¬ (e ≡ fail.Memory) → outcome ≡ Err e
