use Rattle.site_crew.specs.Links.{AllStill, AreLinked, AreSettledBelow}
use Rattle.site_crew.proofs.settling.settle_all.Given as goal

abbrev pub invariant-loop-to : goal.invariant-loop-to
invariant-loop-to g l = record {
  still : AllStill g.P.Port l.fn.seats l.seats;
  linked : AreLinked g.P.Port l.seats;
  below : AreSettledBelow g.P.Port l.seats l.to;
}
