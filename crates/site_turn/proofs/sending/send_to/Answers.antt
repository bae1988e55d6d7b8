use Rattle.std.proofs.Common.{arith, refl}
use Rattle.site_turn.proofs.Events.{sends_refl, sends_trans, sent_end, sent_end_others, sent_full, sent_more, sent_zero}
use Rattle.site_turn.proofs.Steps.{seated_after, turned_refl, turned_trans}
use Rattle.site_turn.proofs.sending.send_to.Goals as goal

pub loop-number-init : goal.loop-number-init
loop-number-init g c = record { turned = turned_refl _; seated = c.requires.seated; only = sends_refl _; some = sent_zero c.args.to c.args.seat.now }

pub loop-number-preserved : goal.loop-number-preserved
loop-number-preserved g c = let i = c.loop-number.invariant in let e = c.if-not-send_one.ensures in record {
  turned = turned_trans i.turned e.turned;
  seated = seated_after e.turned i.seated;
  only = sends_trans i.only e.only;
  some = sent_more c.args.to c.loop-number.number i.some (e.yes refl);
}

pub returns-then-not-send_one-clause-turned : goal.returns-then-not-send_one-clause-turned
returns-then-not-send_one-clause-turned g c = turned_trans c.loop-number.invariant.turned c.send_one.ensures.turned

pub returns-then-not-send_one-clause-only : goal.returns-then-not-send_one-clause-only
returns-then-not-send_one-clause-only g c = sends_trans c.loop-number.invariant.only c.send_one.ensures.only

pub returns-then-not-send_one-clause-most : goal.returns-then-not-send_one-clause-most
returns-then-not-send_one-clause-most g c = sent_end c.args.to c.loop-number.number c.loop-number.invariant.some (c.if-not-send_one.ensures.no refl)

pub returns-then-not-send_one-clause-others : goal.returns-then-not-send_one-clause-others
returns-then-not-send_one-clause-others g c = sent_end_others c.args.to c.loop-number.number c.loop-number.invariant.some (c.if-not-send_one.ensures.no refl)

pub returns-clause-most : goal.returns-clause-most
returns-clause-most g c = sent_full c.args.to c.loop-number.number c.loop-number.invariant.some (omega arith)

pub returns-clause-others : goal.returns-clause-others
returns-clause-others g c = c.loop-number.invariant.some.others
