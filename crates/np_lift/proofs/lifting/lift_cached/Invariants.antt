use Rattle.std.proofs.Common.{◌≡◌, ◌++◌, drop}
use Rattle.np_lift.specs.CachedLift.{lift_cached, lift_from}
use Rattle.np_lift.proofs.lifting.lift_cached.Given as goal

-- what is there already and what is still to come is all
abbrev pub invariant-loop-event : goal.invariant-loop-event
invariant-loop-event l = l.made ++ lift_from l.stand_ins (drop l.event-index l.events) ≡ lift_cached l.events
