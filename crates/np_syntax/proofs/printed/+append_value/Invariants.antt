use Rattle.std.proofs.Common.{◌≡◌, ◌++◌, take}
use Rattle.std.specs.Prelude.{codes}
use Rattle.std.specs.List.{flat_map}
use Rattle.np_syntax.specs.Printed.{value_text}
use Rattle.np_syntax.proofs.printed.+append_value.Given as goal

abbrev pub invariant-append_parts-loop-part : goal.invariant-append_parts-loop-part
invariant-append_parts-loop-part l = l.text ≡ l.initial.text ++ flat_map (λ part. codes " " ++ value_text l.sites part) (take l.part-index l.others)
