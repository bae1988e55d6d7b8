use Rattle.std.proofs.Common.{◌≡◌, ◌++◌, false, map, drop}
use Rattle.std.specs.Prelude.{codes}
use Rattle.std.specs.List.{flat_map}
use Rattle.np_show.specs.Shown.{type_text}
use Rattle.np_show.proofs.types.+ty.Given as goal

abbrev pub invariant-put_types-loop-other : goal.invariant-put_types-loop-other
invariant-put_types-loop-other l = l.text.failed ≡ false → (l.initial.text.failed ≡ false)
    × (l.text.text ++ flat_map (λ other. codes " " ++ other) (map type_text (drop l.other-index l.others)) ≡ l.initial.text.text ++ flat_map (λ other. codes " " ++ other) (map type_text l.others))
