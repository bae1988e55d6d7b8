use Rattle.np_histories.proofs.Telling.{prints_line, tells_past}
use Rattle.np_histories.proofs.pasts.told.Goals as goal

pub past_of-requires-clause-line : goal.past_of-requires-clause-line
past_of-requires-clause-line c = prints_line c.law_said_by_prints.ensures.low_run c.args.low.now c.args.events.now c.args.line _ c.requires.line

pub returns : goal.returns
returns c =
    tells_past c.law_said_by_prints.ensures.low_run c.args.format c.args.low.now c.args.events.now c.args.line _ c.requires.line c.in_ok-led.led c.in_ok-led.ensures
    _ c.as_slice.ensures c.report_of.result c.report_of.ensures
