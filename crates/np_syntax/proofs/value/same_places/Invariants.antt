use Rattle.std.proofs.Common.{◌≡◌, take, length}
use Rattle.np_syntax.proofs.value.same_places.Given as goal

abbrev pub invariant-loop-at : goal.invariant-loop-at
invariant-loop-at l = (length l.mine ≡ length l.theirs) × (take l.at l.mine ≡ take l.at l.theirs)
