use Rattle.run_views.specs.Causes.{index_of}
use Rattle.run_views.proofs.Tracings.{IsFollowed}
use Rattle.run_views.proofs.tracing.find_causes.Given as goal

abbrev pub invariant-loop-place : goal.invariant-loop-place
invariant-loop-place l = IsFollowed l.fn.reached l.events l.place l.reached (index_of l.writers) l.found
