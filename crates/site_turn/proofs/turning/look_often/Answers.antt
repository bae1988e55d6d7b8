use Rattle.site_turn.proofs.Events.{none_refl, none_trans, one_after}
use Rattle.site_turn.proofs.Steps.{seated_after, turned_refl, turned_trans}
use Rattle.site_turn.proofs.turning.look_often.Goals as goal

pub loop-init : goal.loop-init
loop-init g c = record { turned = turned_refl _; seated = c.requires; none = none_refl _ }

pub loop-preserved : goal.loop-preserved
loop-preserved g c = let i = c.loop.invariant in let e = c.receive_told.ensures in record {
  turned = turned_trans i.turned e.turned;
  seated = seated_after e.turned i.seated;
  none = none_trans i.none (e.no c.if-receive_told.false);
}

pub returns-then-receive_told-clause-turned : goal.returns-then-receive_told-clause-turned
returns-then-receive_told-clause-turned g c = turned_trans c.loop.invariant.turned c.receive_told.ensures.turned

pub returns-then-receive_told-clause-yes : goal.returns-then-receive_told-clause-yes
returns-then-receive_told-clause-yes g c = λ e. one_after c.loop.invariant.none (c.receive_told.ensures.yes c.if-receive_told.true)
