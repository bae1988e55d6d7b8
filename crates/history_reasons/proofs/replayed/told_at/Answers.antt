use Rattle.history_reasons.proofs.Told.{told-some, told-none}
use Rattle.history_reasons.proofs.replayed.told_at.Goals as goal

pub returns-in_ok-reasons_of-in-Some : goal.returns-in_ok-reasons_of-in-Some
returns-in_ok-reasons_of-in-Some c =
    told-some c.args.seen.reached.now c.args.event.now c.in_ok-failing.field-0 c.in-Some.failing c.in_ok-reasons_of-in-Some.field-0 c.in_ok-failing.ensures c.in-Some.is

pub returns-in-None : goal.returns-in-None
returns-in-None c = told-none c.args.seen.reached.now c.args.event.now c.in_ok-failing.field-0 c.in_ok-failing.ensures c.in-None.is
