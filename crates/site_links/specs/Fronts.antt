-- Lists of which the rest is left.
use Rattle.std.specs.Prelude.{◌-◌, List, length, take}

-- what comes before the rest in a whole that ends with it
abbrev pub before : {T : Type 0} → List T → List T → List T
before whole rest = take (length whole - length rest) whole
