use Rattle.std.proofs.Common.{◌≡◌, ◌++◌, false, map, drop}
use Rattle.std.specs.Prelude.{codes}
use Rattle.std.specs.List.{flat_map}
use Rattle.np_show.specs.Shown.{pat_text}
use Rattle.np_show.proofs.patterns.+pat.Given as goal

abbrev pub invariant-put_pats-loop-other : goal.invariant-put_pats-loop-other
invariant-put_pats-loop-other l = l.text.failed ≡ false → (l.initial.text.failed ≡ false)
    × (l.text.text ++ flat_map (λ other. codes " " ++ other) (map pat_text (drop l.other-index l.others)) ≡ l.initial.text.text ++ flat_map (λ other. codes " " ++ other) (map pat_text l.others))
