use Rattle.std.proofs.Common.{◌≡◌, false, replicate}
use Rattle.run_views.proofs.marking.last_marked.Given as goal

abbrev pub invariant-loop-place : goal.invariant-loop-place
invariant-loop-place l = l.marked ≡ replicate l._place false
