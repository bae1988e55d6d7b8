use Rattle.crew_inboxes.specs.Seats.{Woven}
use Rattle.crew_inboxes.proofs.making.join_all.Given as goal

abbrev pub invariant-loop-site : goal.invariant-loop-site
invariant-loop-site l = Woven l.sites l.site l.seats.items
