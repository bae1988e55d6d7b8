use Rattle.std.proofs.Common.{◌≢◌, ◌<◌, ℕ}
use Rattle.site_crew.specs.Links.{AllStill, AreLinked, IsSettled, IsSettledTo, IsToldBelow}
use Rattle.site_crew.proofs.settling.settle_to.Given as goal

abbrev pub invariant-loop-from : goal.invariant-loop-from
invariant-loop-from g l = record {
  still : AllStill g.P.Port l.fn.seats l.seats;
  linked : AreLinked g.P.Port l.seats;
  others : (k : ℕ) → k ≢ l.to → IsSettledTo g.P.Port l.fn.seats k → IsSettledTo g.P.Port l.seats k;
  here : (i : ℕ) → i < l.from → IsSettled g.P.Port l.seats i l.to;
  told : IsToldBelow g.P.Port l.seats l.to l.from l.waits;
}
