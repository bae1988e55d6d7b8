use Rattle.std.proofs.Common.{◌≡◌, ◌++◌, map}
use Rattle.stamp_history.specs.Histories.{Stored}
use Rattle.site_crew.specs.Seats.{histories}
use Rattle.site_crew.proofs.crew.histories_of.Given as goal

abbrev pub invariant-loop-seat : goal.invariant-loop-seat
invariant-loop-seat g l = record {
  whole : l.fn.seats.items ≡ l.yielded ++ l.seat-iterator.rest.items;
  out : map (λ (h : Stored). h.history) l.out ≡ histories l.yielded;
}
