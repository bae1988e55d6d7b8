use Rattle.std.proofs.Common.{◌≡◌, ◌++◌, drop}
use Rattle.run_views.specs.Past.{picked}
use Rattle.run_views.specs.Causes.{is_marked}
use Rattle.run_views.proofs.marking.marked_events.Given as goal

-- what is there already and what is still to come is all
abbrev pub invariant-loop-place : goal.invariant-loop-place
invariant-loop-place l = l.made ++ picked (is_marked l.marked) l.place (drop l.place l.events) ≡ picked (is_marked l.marked) 0 l.events
