use Rattle.std.proofs.Common.{}
use Rattle.site_state.specs.Lines.{IsNext}
use Rattle.site_turn.proofs.Events.{sends_refl, sends_trans, sent_below_more, sent_below_next, sent_below_none}
use Rattle.site_turn.proofs.Steps.{seated_after, turned_refl, turned_trans}
use Rattle.site_turn.proofs.sending.send.Goals as goal

pub loop-from-init : goal.loop-from-init
loop-from-init g c = record { turned = turned_refl _; seated = c.requires; only = sends_refl _; below = sent_below_none c.args.seat.now }

pub loop-from-preserved : goal.loop-from-preserved
loop-from-preserved g c =
    let i = c.loop-from.invariant in
    let e = c.send_to.ensures in
    let next : IsNext c.loop-from.seat.site.outgoing c.loop-from.from c.in-Some.to = c.in-Some.ensures in
    record {
      turned = turned_trans i.turned e.turned;
      seated = seated_after e.turned i.seated;
      only = sends_trans i.only e.only;
      below = sent_below_more c.in-Some.to (sent_below_next c.loop-from.from c.in-Some.to i.below next.after next.before) e.most e.others;
    }
