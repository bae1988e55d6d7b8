use Rattle.site_links.specs.Seats.{Looked}
use Rattle.site_links.proofs.taking.find.Given as goal

abbrev pub invariant-loop-site : goal.invariant-loop-site
invariant-loop-site g l = Looked g.E.Ends l.first l.site l.fn.port l.port
