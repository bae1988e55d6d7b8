use Rattle.crew_inboxes.specs.Seats.{Begun}
use Rattle.crew_inboxes.proofs.making.new_seats.Given as goal

abbrev pub invariant-loop-site : goal.invariant-loop-site
invariant-loop-site l = Begun l.sites l.site l.seats.items
