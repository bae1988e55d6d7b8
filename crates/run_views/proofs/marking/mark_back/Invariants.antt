use Rattle.run_views.specs.Causes.{AreMarked}
use Rattle.run_views.proofs.marking.mark_back.Given as goal

abbrev pub invariant-loop-place : goal.invariant-loop-place
invariant-loop-place l = AreMarked l.found l.index l.place l.marked
