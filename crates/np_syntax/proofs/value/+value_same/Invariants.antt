use Rattle.std.proofs.Common.{◌≡◌, take, length}
use Rattle.np_syntax.proofs.value.+value_same.Given as goal

abbrev pub invariant-same_values-loop-at : goal.invariant-same_values-loop-at
invariant-same_values-loop-at l = (length l.mine ≡ length l.theirs) × (take l.at l.mine ≡ take l.at l.theirs)
