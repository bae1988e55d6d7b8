use Rattle.std.proofs.lemmas.Grind.{common_steps}
use Rattle.std.proofs.Common.{arith}
use Rattle.site_links.proofs.Looks.{Looked-none, Looked-trans}
use Rattle.site_links.proofs.taking.find.Goals as goal

pub loop-site-init : goal.loop-site-init
loop-site-init g c = Looked-none g.E.Ends c.args.first c.args.port.now

pub loop-site-preserved : goal.loop-site-preserved
loop-site-preserved g c = Looked-trans g.E.Ends c.loop-site.invariant (c.has_item.ensures.no c.if-has_item.false)

pub returns-then-has_item : goal.returns-then-has_item
returns-then-has_item g c = grind (arith, common_steps)
