use Rattle.std.proofs.Common.{◌≡◌, ◌++◌, take}
use Rattle.std.specs.Prelude.{codes}
use Rattle.std.specs.List.{flat_map}
use Rattle.np_syntax.specs.Printed.{escaped}
use Rattle.np_syntax.proofs.printed.append_quoted.Given as goal

abbrev pub invariant-loop-byte : goal.invariant-loop-byte
invariant-loop-byte l = l.text ≡ (l.fn.text ++ codes "\"") ++ flat_map escaped (take l.byte-index l.content)
