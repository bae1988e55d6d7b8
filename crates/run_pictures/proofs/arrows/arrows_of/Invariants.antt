use Rattle.std.specs.List.{AllByRecursion}
use Rattle.run_pictures.specs.Arrows.{IsArrow}
use Rattle.run_pictures.proofs.arrows.arrows_of.Given as goal

abbrev pub invariant-loop-place : goal.invariant-loop-place
invariant-loop-place l = AllByRecursion (IsArrow l.steps) l.arrows
