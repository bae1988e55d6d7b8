use Rattle.std.proofs.Common.{◌≡◌, ◌++◌, drop}
use Rattle.np_lift.specs.Lift.{lift}
use Rattle.run_merge.proofs.lifting.lift.Given as goal

-- what is there already and what is still to come is all
abbrev pub invariant-loop-event : goal.invariant-loop-event
invariant-loop-event l = l.made ++ lift (drop l.event-index l.events) ≡ lift l.events
