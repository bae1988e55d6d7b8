use Rattle.std.proofs.Common.{sym}
use Rattle.np_histories.proofs.Telling.{lacks_alone}
use Rattle.np_histories.proofs.pasts.past_told.Goals as goal

pub told_of-report-requires-clause-said : goal.told_of-report-requires-clause-said
told_of-report-requires-clause-said c = record { last = c.in-Ok.last; reaches = c.in-Ok.ensures.reached; is = sym c.said.ensures }

pub returns-in-Ok-clause-refused : goal.returns-in-Ok-clause-refused
returns-in-Ok-clause-refused c = lacks_alone c.args.low.now c.args.events.now c.args.line c.told_of-report.result c.told_of-report.ensures.refused
