use Rattle.std.proofs.Common.{◌≡◌, take, Some}
use Rattle.np_calculus.specs.Reductions.{run}
use Rattle.run_save.specs.Ours.{IsOursFrom}
use Rattle.run_save.specs.Notes.{AreNoted}
use Rattle.run_save.proofs.ours.first_not_ours.Given as goal

abbrev pub invariant-loop-event : goal.invariant-loop-event
invariant-loop-event l = record {
  counts : l.index ≡ l.event-index;
  reaches : run l.fn.reached (take l.event-index l.events) ≡ Some l.reached;
  noted : AreNoted l.notes l.fn.reached (take l.event-index l.events);
  ours : IsOursFrom l.fn.reached (take l.event-index l.events);
}
