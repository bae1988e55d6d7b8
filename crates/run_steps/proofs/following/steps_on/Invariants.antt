use Rattle.std.proofs.Common.{◌≡◌, ◌++◌, drop, take, Some}
use Rattle.np_calculus.specs.Reductions.{run}
use Rattle.run_steps.specs.Steps.{steps}
use Rattle.run_steps.proofs.following.steps_on.Given as goal

-- the first events are a run, whose steps are made, and those of the others are still to come
abbrev pub invariant-loop-event : goal.invariant-loop-event
invariant-loop-event l = record {
  counts : l.index ≡ l.event-index;
  reaches : run l.fn.reached (take l.event-index l.events) ≡ Some l.reached;
  made : l.made ++ steps l.reached (drop l.event-index l.events) ≡ steps l.fn.reached l.events;
}
