use Rattle.std.proofs.Common.{◌≡◌, drop}
use Rattle.np_types.specs.Widths.{printable_all}
use Rattle.np_types.proofs.widths.+is_printable.Given as goal

abbrev pub invariant-are_printable-loop-ty : goal.invariant-are_printable-loop-ty
invariant-are_printable-loop-ty l = printable_all l.types ≡ printable_all (drop l.ty-index l.types)
