use Rattle.std.proofs.Common.{◌≡◌, ◌++◌, false, map, drop}
use Rattle.std.specs.Prelude.{codes}
use Rattle.std.specs.List.{flat_map}
use Rattle.np_show.specs.Shown.{expr_text}
use Rattle.np_show.proofs.expressions.+expr.Given as goal

abbrev pub invariant-put_exprs-loop-other : goal.invariant-put_exprs-loop-other
invariant-put_exprs-loop-other l = l.text.failed ≡ false → (l.initial.text.failed ≡ false)
    × (l.text.text ++ flat_map (λ other. codes " " ++ other) (map (expr_text 0) (drop l.other-index l.others)) ≡ l.initial.text.text ++ flat_map (λ other. codes " " ++ other) (map (expr_text 0) l.others))
