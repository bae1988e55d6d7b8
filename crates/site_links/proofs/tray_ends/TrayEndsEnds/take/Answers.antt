use Rattle.std.proofs.Common.{sym}
use Rattle.rtrb.specs.Ring.{received}
use Rattle.site_links.proofs.Fronts.{before_popped, left_popped}
use Rattle.site_links.proofs.Kept.{Begins-same}
use Rattle.site_links.proofs.tray_ends.TrayEndsEnds.take.Goals as goal

pub invariant_of-self-clause-passed : goal.invariant_of-self-clause-passed
invariant_of-self-clause-passed g c = left_popped (received c.args.self.now.from) c.args.self.now.inside.items c.pop_front.result c.pop_front.new.self.items c.pop_front.ensures.items c.args.self.now.passed

pub returns-in-Some-clause-taken : goal.returns-in-Some-clause-taken
returns-in-Some-clause-taken g c =
    let e = c.in-Some.ensures.items in
    (before_popped (received c.args.self.now.from) c.args.self.now.inside.items c.in-Some.item c.pop_front.new.self.items e c.args.self.now.passed, Begins-same _ _ (sym e))
