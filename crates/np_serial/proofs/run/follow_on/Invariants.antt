use Rattle.std.proofs.Common.{◌≡◌, take, Some}
use Rattle.np_calculus.specs.Reductions.{run}
use Rattle.np_serial.proofs.run.follow_on.Given as goal

abbrev pub invariant-loop-event : goal.invariant-loop-event
invariant-loop-event l = record {
  counts : l.index ≡ l.event-index;
  reaches : run l.fn.reached (take l.event-index l.events) ≡ Some l.reached;
}
