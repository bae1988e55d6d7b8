use Rattle.std.proofs.Common.{◌≡◌, ◌+◌, drop}
use Rattle.np_types.specs.Widths.{nodes_all}
use Rattle.np_types.proofs.widths.+left_after.Given as goal

abbrev pub invariant-left_after_all-loop-ty : goal.invariant-left_after_all-loop-ty
invariant-left_after_all-loop-ty l = nodes_all l.types + l.left ≡ l.room + nodes_all (drop l.ty-index l.types)
