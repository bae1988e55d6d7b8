use Rattle.site_turn.specs.Turns.{OnlySends, Seated, Turned}
use Rattle.site_turn.proofs.Events.{HasSentSome}
use Rattle.site_turn.proofs.sending.send_to.Given as goal

abbrev pub invariant-loop-number : goal.invariant-loop-number
invariant-loop-number g l = record {
  turned : Turned g.P.Port l.code l.fn.seat l.seat;
  seated : Seated g.P.Port l.code l.seat;
  only : OnlySends g.P.Port l.code l.fn.seat l.seat;
  some : HasSentSome g.P.Port l.code l.to l.number l.fn.seat l.seat;
}
