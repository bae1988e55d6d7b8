use Rattle.std.proofs.Common.{length, ap, arith}
use Rattle.stamp_history.specs.Histories.{Recorded}
use Rattle.site_turn.proofs.Events.{count_none, count_one, had_sent, sends_still}
use Rattle.site_turn.proofs.Steps.{seated_after, turned_trans}
use Rattle.site_turn.proofs.turning.events.Goals as goal

pub loop-number-init : goal.loop-number-init
loop-number-init g c = let same = count_none c.send.ensures.only.site in record {
  turned = c.send.ensures.turned;
  seated = seated_after c.send.ensures.turned c.requires;
  count = omega (arith, same);
  first = λ zero. c.send.ensures.only;
  sends = λ zero. c.send.ensures.all;
}

pub send_new-requires-after_bounds : goal.send_new-requires-after_bounds
send_new-requires-after_bounds g c κs within = seated_after c.event.ensures.turned c.loop-number.invariant.seated

pub loop-number-preserved : goal.loop-number-preserved
loop-number-preserved g c =
    let i = c.loop-number.invariant in let t = turned_trans c.event.ensures.turned c.send_new.ensures.turned in
    let one = count_one (c.event.ensures.yes c.if-not-event.false) in
    let same = count_none c.send_new.ensures.only.site in record {
      turned = turned_trans i.turned t;
      seated = seated_after t i.seated;
      count = omega (arith, one, same, i.count);
      first = λ zero. absurd (omega (arith, zero));
      sends = λ zero. absurd (omega (arith, zero));
    }

pub returns-then-not-event-clause-turned : goal.returns-then-not-event-clause-turned
returns-then-not-event-clause-turned g c = turned_trans c.loop-number.invariant.turned c.event.ensures.turned

pub returns-then-not-event-clause-most : goal.returns-then-not-event-clause-most
returns-then-not-event-clause-most g c = let same = count_none (c.event.ensures.no c.if-not-event.true) in let count = c.loop-number.invariant.count in let most = c.most_events-number-end.ensures.events in omega (arith, same, count, most)

pub returns-then-not-event-clause-idle : goal.returns-then-not-event-clause-idle
returns-then-not-event-clause-idle g c = λ e.
    let i = c.loop-number.invariant in
    let same = count_none (c.event.ensures.no c.if-not-event.true) in
    let long = ap length e in
    had_sent c.args.seat.now _ _ c.args.effort.walks (i.first (omega (arith, same, long, i.count))) (c.event.ensures.idle (omega (arith, same, long, i.count)) c.if-not-event.true)

pub returns-then-not-event-clause-sends : goal.returns-then-not-event-clause-sends
returns-then-not-event-clause-sends g c = λ e ok.
    let i = c.loop-number.invariant in
    let none = c.event.ensures.no c.if-not-event.true in
    let same = count_none none in
    let long = ap length e in
    sends_still (i.sends (omega (arith, same, long, i.count))) c.event.ensures.turned (ap (λ (h : Recorded). h.events) none.records.history)

pub returns-clause-sends : goal.returns-clause-sends
returns-clause-sends g c = λ e ok. let count = c.loop-number.invariant.count in let long = ap length e in let some = c.most_events-number-end.ensures.some in absurd (omega (arith, count, long, some))

pub returns-clause-most : goal.returns-clause-most
returns-clause-most g c = let count = c.loop-number.invariant.count in let most = c.most_events-number-end.ensures.events in omega (arith, count, most)

pub returns-clause-idle : goal.returns-clause-idle
returns-clause-idle g c = λ e. let count = c.loop-number.invariant.count in let long = ap length e in let some = c.most_events-number-end.ensures.some in absurd (omega (arith, count, long, some))
