use Rattle.std.proofs.Common.{◌≡◌, ◌++◌, false, map, drop}
use Rattle.std.specs.Prelude.{codes}
use Rattle.std.specs.List.{flat_map}
use Rattle.np_low_text.specs.LowText.{place_text}
use Rattle.np_low_text.proofs.names.put_pairs.Given as goal

abbrev pub invariant-loop-other : goal.invariant-loop-other
invariant-loop-other l = l.text.failed ≡ false → (l.initial.text.failed ≡ false)
    × (l.text.text ++ flat_map (λ other. codes " " ++ other) (map (place_text l.fn.sites) (drop l.other-index l.others))
    ≡ l.initial.text.text ++ flat_map (λ other. codes " " ++ other) (map (place_text l.fn.sites) l.others))
