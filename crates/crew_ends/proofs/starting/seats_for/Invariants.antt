use Rattle.std.proofs.Common.{◌≡◌, ◌++◌, length}
use Rattle.crew_ends.specs.Starts.{AreFirst}
use Rattle.crew_ends.proofs.starting.seats_for.Given as goal

abbrev pub invariant-loop-port : goal.invariant-loop-port
invariant-loop-port g l = record {
  whole : l.fn.ports.items ≡ l.yielded ++ l.port-iterator.rest.items;
  number : l.number ≡ length l.yielded;
  seated : AreFirst l.code l.budget l.yielded l.seats.items;
}
