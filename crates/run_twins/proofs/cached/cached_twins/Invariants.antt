use Rattle.std.proofs.Common.{◌≡◌}
use Rattle.run_twins.specs.Twins as spec
use Rattle.run_twins.proofs.Counted.{IsGoing}
use Rattle.run_twins.proofs.cached.cached_twins.Given as goal

-- the numbers so far, and those still to come
abbrev pub invariant-loop-event : goal.invariant-loop-event
invariant-loop-event l = record {
  counts : l.at ≡ l.event-index;
  made : IsGoing l.made (spec.cached_twins l.events) l.events l.messengers.members l.event-index;
}
