use Rattle.std.proofs.Common.{◌≡◌, ◌≤◌, ◌-◌, drop, length}
use Rattle.np_scope.proofs.scope.Scope.leave_to.Given as goal

abbrev pub invariant-loop-self : goal.invariant-loop-self
invariant-loop-self l = (l.depth ≤ length l.self) × (length l.self ≤ length l.initial.self) × (l.self ≡ drop (length l.initial.self - length l.self) l.initial.self)

abbrev pub decreases-loop-self : goal.decreases-loop-self
decreases-loop-self l = length l.self
