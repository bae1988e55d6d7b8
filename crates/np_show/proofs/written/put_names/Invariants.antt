use Rattle.std.proofs.Common.{◌≡◌, ◌++◌, false, map, drop}
use Rattle.std.specs.Prelude.{codes}
use Rattle.std.specs.List.{flat_map}
use Rattle.np_show.specs.Shown.{name_text}
use Rattle.np_show.proofs.written.put_names.Given as goal

abbrev pub invariant-loop-other : goal.invariant-loop-other
invariant-loop-other l = l.text.failed ≡ false → (l.initial.text.failed ≡ false)
    × (l.text.text ++ flat_map (λ other. codes " " ++ other) (map name_text (drop l.other-index l.others)) ≡ l.initial.text.text ++ flat_map (λ other. codes " " ++ other) (map name_text l.others))
