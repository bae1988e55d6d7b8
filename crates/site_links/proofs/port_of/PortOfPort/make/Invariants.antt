use Rattle.site_links.specs.Seats.{Made}
use Rattle.site_links.proofs.port_of.PortOfPort.make.Given as goal

abbrev pub invariant-loop-number : goal.invariant-loop-number
invariant-loop-number g l = Made g.E.Ends l.number l.ports.items
