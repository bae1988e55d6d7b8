use Rattle.std.proofs.Common.{◌<◌, ℕ}
use Rattle.crew_ends.specs.Quiet.{IsOver}
use Rattle.crew_ends.proofs.quiet.are_over.Given as goal

abbrev pub invariant-loop-i : goal.invariant-loop-i
invariant-loop-i g l = (k : ℕ) → k < l.i → IsOver l.code l.budget l.seats k
