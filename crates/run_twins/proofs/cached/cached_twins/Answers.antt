use Rattle.std.proofs.Common.{◌+◌, ap, length, refl, ◌∙◌}
use Rattle.np_lift.specs.CachedLift.{at_first}
use Rattle.run_twins.proofs.Counted.{as-many-cached, going-end, going-first, going-more, grown-as}
use Rattle.run_twins.proofs.cached.cached_twins.Goals as goal

pub loop-event-init : goal.loop-event-init
loop-event-init c = record { counts = refl; made = rw c.new-made.ensures (going-first c.args.events.now _ c.new-messengers.ensures) }

pub loop-event-preserved : goal.loop-event-preserved
loop-event-preserved c =
    let i = c.loop-event.event-index in
    let here = c.loop-event.invariant in
    record {
      counts = ap (λ n. n + 1) here.counts;
      made = going-more c.loop-event.made c.add_if.new.list _ c.args.events.now _ _ i _ _ c.loop-event-test.true c.in_ok-wanted.ensures
          (grown-as _ _ _ _ _ _ c.in_ok-add_if.ensures refl here.counts) here.made;
    }

pub returns-clause-twins : goal.returns-clause-twins
returns-clause-twins c = going-end c.loop-event.made _ c.args.events.now _ c.loop-event.event-index c.loop-event-test.false c.loop-event.invariant.made

pub returns-clause-count : goal.returns-clause-count
returns-clause-count c =
    ap length (going-end c.loop-event.made _ c.args.events.now _ c.loop-event.event-index c.loop-event-test.false c.loop-event.invariant.made)
    ∙ as-many-cached at_first 0 c.args.events.now
