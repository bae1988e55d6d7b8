use Rattle.std.proofs.Common.{◌≤◌, length, vec_capacity}
use Rattle.crew_inboxes.specs.Seats.{Seated}
use Rattle.crew_inboxes.proofs.making.take_seats.Given as goal

abbrev pub invariant-loop-seat : goal.invariant-loop-seat
invariant-loop-seat l = record {
  seated : Seated (length l.yielded) l.fn.seats.items l.ports.items;
  room : length l.fn.seats.items ≤ vec_capacity l.ports;
}
