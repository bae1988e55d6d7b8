use Rattle.std.proofs.Common.{◌+◌, ap}
use Rattle.np_calculus.proofs.Runs.{goes-on}
use Rattle.np_serial.proofs.Runs.{stops-here, none-whole}
use Rattle.np_serial.proofs.run.follow_on.Goals as goal

pub loop-event-preserved : goal.loop-event-preserved
loop-event-preserved c = record {
  counts = ap (λ n. n + 1) c.loop-event.invariant.counts;
  reaches = goes-on c.args.reached.now c.args.events.now c.loop-event.event-index _ c.loop-event.reached c.loop-event-test.true c.loop-event.invariant.reaches c.apply.new.c c.in-Ok.ensures;
}

pub returns-in-Err-NotEnabled-clause-refused : goal.returns-in-Err-NotEnabled-clause-refused
returns-in-Err-NotEnabled-clause-refused c =
    let refused = rw c.in-Err-NotEnabled.field-0-is at c.in-Err-NotEnabled.ensures in
    rw c.loop-event.invariant.counts (stops-here c.args.reached.now c.args.events.now c.loop-event.event-index _ c.loop-event.reached c.loop-event-test.true c.loop-event.invariant.reaches refused.0)

pub returns-in-Err-NotEnabled-clause-none : goal.returns-in-Err-NotEnabled-clause-none
returns-in-Err-NotEnabled-clause-none c = λ other.
    (let refused = rw c.in-Err-NotEnabled.field-0-is at c.in-Err-NotEnabled.ensures in
    none-whole c.args.reached.now c.args.events.now c.loop-event.event-index
    (stops-here c.args.reached.now c.args.events.now c.loop-event.event-index _ c.loop-event.reached c.loop-event-test.true c.loop-event.invariant.reaches refused.0))
