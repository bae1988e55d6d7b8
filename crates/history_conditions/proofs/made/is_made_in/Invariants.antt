use Rattle.std.proofs.Common.{◌≡◌, drop}
use Rattle.history_conditions.specs.Born.{is_made_in}
use Rattle.history_conditions.proofs.made.is_made_in.Given as goal

-- among those that are left
abbrev pub invariant-loop-event : goal.invariant-loop-event
invariant-loop-event l = is_made_in l.events l.name ≡ is_made_in (drop l.event-index l.events) l.name
