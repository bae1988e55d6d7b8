use Rattle.std.proofs.Common.{◌≡◌, take}
use Rattle.np_syntax.proofs.value.+value_copy.Given as goal

abbrev pub invariant-copy_values-loop-value : goal.invariant-copy_values-loop-value
invariant-copy_values-loop-value l = l.copies ≡ take l.value-index l.values
