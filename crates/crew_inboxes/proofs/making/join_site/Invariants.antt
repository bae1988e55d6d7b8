use Rattle.crew_inboxes.specs.Seats.{Row}
use Rattle.crew_inboxes.proofs.making.join_site.Given as goal

abbrev pub invariant-loop-i : goal.invariant-loop-i
invariant-loop-i l = Row l.sites l.site l.i l.fn.seats.items l.seats.items l.ways.items
