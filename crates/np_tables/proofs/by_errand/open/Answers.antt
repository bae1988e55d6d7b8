use Rattle.np_tables.proofs.LineLaws.{opens, stays_shut}
use Rattle.np_tables.proofs.by_errand.open.Goals as goal

pub returns-clause-busy : goal.returns-clause-busy
returns-clause-busy c =
    opens c.args.lines.now c.args.errand c.in-Some.meeting c.in-Some.ensures c.args.busy.now c.insert.new.self tt (c.if-not-meets.ensures c.in-Some.meeting c.in-Some.ensures) c.in-Ok.ensures.updates.0

pub returns-then-not-meets-clause-busy : goal.returns-then-not-meets-clause-busy
returns-then-not-meets-clause-busy c = stays_shut c.args.lines.now c.args.errand c.in-Some.meeting c.in-Some.ensures c.args.busy.now (c.if-not-meets.ensures c.in-Some.meeting c.in-Some.ensures)
