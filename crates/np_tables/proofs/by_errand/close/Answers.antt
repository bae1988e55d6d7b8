use Rattle.np_tables.proofs.LineLaws.{shuts}
use Rattle.np_tables.proofs.by_errand.close.Goals as goal

pub returns-in-Some : goal.returns-in-Some
returns-in-Some c =
    shuts c.args.errand c.in-Some.meeting c.in-Some.ensures c.args.others c.if-others.false c.args.busy.now c.swap_remove.new.self c.swap_remove.ensures.updates.0
