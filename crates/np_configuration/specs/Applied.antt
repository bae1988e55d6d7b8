-- What a call that makes an event answers.
use Rattle.std.specs.Prelude.{◌≡◌, Option, None, Some, Result, Ok, Err}
use Rattle.np_configuration.specs.declared.fail.ApplyFail.{ApplyFail}
use Rattle.np_configuration.specs.declared.fail.ApplyFail.TheVariants.{NotEnabled, Memory}
use Rattle.np_calculus.specs.Config.{Config}

-- Ok is the row's configuration; a refusal leaves the old one, and NotEnabled says that the row is not met
abbrev pub Applied : Option Config → Config → Config → Result (Unit {0}) ApplyFail → Type 0
Applied met old new (Ok u) = met ≡ Some new
Applied met old new (Err NotEnabled) = (met ≡ None) × (new ≡ old)
Applied met old new (Err Memory) = new ≡ old

-- What a call that looks for what an event needs answers: what it found, and NotEnabled only where the row is not met
abbrev pub Finds : {T : Type 0} → Option Config → (T → Type 0) → Result T ApplyFail → Type 0
Finds met found (Ok t) = found t
Finds met found (Err NotEnabled) = met ≡ None
Finds met found (Err Memory) = Unit {0}
