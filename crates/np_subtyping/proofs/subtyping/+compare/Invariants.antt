use Rattle.std.proofs.Common.{◌≡◌, drop, length}
use Rattle.np_subtyping.specs.Ordered.{OrderedAll}
use Rattle.np_subtyping.proofs.subtyping.+compare.Given as goal

abbrev pub invariant-compare_all-loop-i : goal.invariant-compare_all-loop-i
invariant-compare_all-loop-i l = (length l.a ≡ length l.b) × (OrderedAll l.up l.a l.b ≡ OrderedAll l.up (drop l.i l.a) (drop l.i l.b))
