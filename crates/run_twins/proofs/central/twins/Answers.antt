use Rattle.std.proofs.Common.{◌+◌, ap, length, ◌∙◌}
use Rattle.run_twins.proofs.Counted.{as-many, grown-as, twins-end, twins-more}
use Rattle.run_twins.proofs.central.twins.Goals as goal

pub loop-event-preserved : goal.loop-event-preserved
loop-event-preserved c =
    let i = c.loop-event.event-index in
    let here = c.loop-event.invariant in
    record {
      counts = ap (λ n. n + 1) here.counts;
      made = twins-more c.loop-event.made c.add_if.new.list _ c.args.events.now i _ c.loop-event-test.true
          (grown-as _ _ _ _ _ _ c.in_ok-add_if.ensures c.is_lifted.ensures here.counts) here.made;
    }

pub returns-clause-twins : goal.returns-clause-twins
returns-clause-twins c = twins-end c.loop-event.made _ c.args.events.now c.loop-event.event-index c.loop-event-test.false c.loop-event.invariant.made

pub returns-clause-count : goal.returns-clause-count
returns-clause-count c =
    ap length (twins-end c.loop-event.made _ c.args.events.now c.loop-event.event-index c.loop-event-test.false c.loop-event.invariant.made) ∙ as-many 0 c.args.events.now
