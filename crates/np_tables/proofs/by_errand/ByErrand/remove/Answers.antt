use Rattle.np_tables.proofs.LineLaws.{busy_fewer}
use Rattle.np_tables.proofs.by_errand.ByErrand.remove.Goals as goal

pub returns-clause-busy : goal.returns-clause-busy
returns-clause-busy c =
    busy_fewer c.args.self.now.lines c.leave-others.new.self c.args.self.now.busy c.close.new.busy c.args.errand c.args.mark c.leave-others.result
    c.requires c.leave-others.ensures.lines c.leave-others.ensures.others c.close.ensures
