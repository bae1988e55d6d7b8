use Rattle.site_turn.proofs.Events.{none_refl, none_trans, one_after}
use Rattle.site_turn.proofs.Steps.{seated_after, turned_refl, turned_trans}
use Rattle.site_turn.proofs.receiving.receive_told.Goals as goal

pub loop-init : goal.loop-init
loop-init g c = record { turned = turned_refl _; seated = c.requires; none = none_refl _ }

pub loop-preserved : goal.loop-preserved
loop-preserved g c = let i = c.loop.invariant in let e = c.receive_from.ensures in record {
  turned = turned_trans i.turned e.turned;
  seated = seated_after e.turned i.seated;
  none = none_trans i.none (e.no c.if-receive_from.false);
}

pub returns-then-receive_from-clause-turned : goal.returns-then-receive_from-clause-turned
returns-then-receive_from-clause-turned g c = turned_trans c.loop.invariant.turned c.receive_from.ensures.turned

pub returns-then-receive_from-clause-yes : goal.returns-then-receive_from-clause-yes
returns-then-receive_from-clause-yes g c = λ e. one_after c.loop.invariant.none (c.receive_from.ensures.yes c.if-receive_from.true)

pub returns-then-seat-clause-turned : goal.returns-then-seat-clause-turned
returns-then-seat-clause-turned g c = turned_trans c.loop.invariant.turned c.receive_from.ensures.turned

pub returns-then-seat-clause-no : goal.returns-then-seat-clause-no
returns-then-seat-clause-no g c = λ e. none_trans c.loop.invariant.none (c.receive_from.ensures.no c.if-receive_from.false)
