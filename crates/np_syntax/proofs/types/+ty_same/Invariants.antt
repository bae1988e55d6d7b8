use Rattle.std.proofs.Common.{◌≡◌, take, length}
use Rattle.np_syntax.proofs.types.+ty_same.Given as goal

abbrev pub invariant-same_types-loop-at : goal.invariant-same_types-loop-at
invariant-same_types-loop-at l = (length l.mine ≡ length l.theirs) × (take l.at l.mine ≡ take l.at l.theirs)
