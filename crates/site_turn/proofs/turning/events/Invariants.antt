use Rattle.std.proofs.Common.{◌≡◌, ◌+◌, length}
use Rattle.site_turn.specs.Turns.{OnlySends, Seated, SendsAll, Turned}
use Rattle.site_turn.proofs.turning.events.Given as goal

abbrev pub invariant-loop-number : goal.invariant-loop-number
invariant-loop-number g l = record {
  turned : Turned g.P.Port l.code l.fn.seat l.seat;
  seated : Seated g.P.Port l.code l.seat;
  count : length l.seat.site.history.events ≡ length l.fn.seat.site.history.events + l.number;
  first : l.number ≡ 0 → OnlySends g.P.Port l.code l.fn.seat l.seat;
  sends : l.number ≡ 0 → SendsAll g.P.Port l.code l.fn.seat l.seat;
}
