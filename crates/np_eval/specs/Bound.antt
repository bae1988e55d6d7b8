-- What a pattern that was tried left in the frame.
use Rattle.std.specs.Prelude.{◌≡◌, Bool, true, false, Option, None, Some}
use Rattle.np_eval.specs.Eval.{Env}

-- the environment that a pattern gives, where it matches
abbrev pub Bound : Option Env → Bool → Env → Type 0
Bound given true env = given ≡ Some env
Bound given false env = given ≡ None
