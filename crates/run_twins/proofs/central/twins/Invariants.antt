use Rattle.std.proofs.Common.{◌≡◌, ◌++◌, drop}
use Rattle.run_twins.specs.Twins as spec
use Rattle.run_twins.proofs.central.twins.Given as goal

-- the numbers so far, and those still to come
abbrev pub invariant-loop-event : goal.invariant-loop-event
invariant-loop-event l = record {
  counts : l.at ≡ l.event-index;
  made : l.made ++ spec.twins_from l.event-index (drop l.event-index l.events) ≡ spec.twins l.events;
}
