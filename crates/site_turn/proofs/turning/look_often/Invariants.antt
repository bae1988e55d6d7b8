use Rattle.site_turn.specs.Turns.{MakesNone, Seated, Turned}
use Rattle.site_turn.proofs.turning.look_often.Given as goal

abbrev pub invariant-loop : goal.invariant-loop
invariant-loop g l = record {
  turned : Turned g.P.Port l.code l.fn.seat l.seat;
  seated : Seated g.P.Port l.code l.seat;
  none : MakesNone l.code l.fn.seat.site l.seat.site;
}
