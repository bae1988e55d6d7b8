use Rattle.std.proofs.Common.{length}
use Rattle.site_links.specs.Seats.{Partly}
use Rattle.site_links.proofs.making.link_each.Given as goal

abbrev pub invariant-loop-i : goal.invariant-loop-i
invariant-loop-i g l = Partly g.E.Ends (length l.fn.ports.items) l.i l.ports.items l.port
