use Rattle.std.proofs.Common.{◌-◌, length}
use Rattle.site_turn.specs.Turns.{OnlySends, Seated, Turned}
use Rattle.site_turn.proofs.Events.{HasSentBelow}
use Rattle.site_turn.proofs.sending.send.Given as goal

abbrev pub invariant-loop-from : goal.invariant-loop-from
invariant-loop-from g l = record {
  turned : Turned g.P.Port l.code l.fn.seat l.seat;
  seated : Seated g.P.Port l.code l.seat;
  only : OnlySends g.P.Port l.code l.fn.seat l.seat;
  below : HasSentBelow g.P.Port l.code l.from l.fn.seat l.seat;
}

abbrev pub decreases-loop-from : goal.decreases-loop-from
decreases-loop-from g l = length l.code.sites - l.from
