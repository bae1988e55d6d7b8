use Rattle.std.proofs.Common.{refl}
use Rattle.np_tables.proofs.LineLaws.{busy_same, busy_more, some_entered}
use Rattle.np_tables.proofs.by_errand.ByErrand.add.Goals as goal

pub open-requires-clause-own : goal.open-requires-clause-own
open-requires-clause-own c = some_entered c.args.self.now.lines c.enter.new.self c.args.errand c.args.mark c.in_ok-enter.ensures.ok

pub returns-clause-busy : goal.returns-clause-busy
returns-clause-busy c =
    let lines = c.args.self.now.lines in
    let room = busy_same lines lines c.args.self.now.busy c.reserve.new.self c.requires (record { same = λ f. refl }) c.reserve.ensures.entries in
    busy_more lines c.enter.new.self c.reserve.new.self c.open.new.busy c.args.errand c.args.mark room c.in_ok-enter.ensures.ok c.open.ensures.busy
