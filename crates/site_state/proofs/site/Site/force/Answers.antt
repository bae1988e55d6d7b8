use Rattle.std.proofs.Common.{◌-◌, sym, subst, Result, Ok, Err, OnOk}
use Rattle.np_syntax.specs.declared.event.Event.{Event}
use Rattle.agent_pool.specs.declared.ready.Ready.{Ready}
use Rattle.site_state.specs.Doing.{HasDoneEvent, event_at}
use Rattle.site_agents.specs.Standings.{CanDo}
use Rattle.site_state.specs.Standings.{with_clock}
use Rattle.site_state.proofs.site.Site.force.Goals as goal

pub do_late-requires-clause-can : goal.do_late-requires-clause-can
do_late-requires-clause-can c = subst (λ (r : Ready). CanDo c.args.code.now c.args.self.now.agents c.who_can-name.result r) (sym c.ready_of.ensures) c.who_can-name.ensures

-- the event that is done is the one that is given
given : {A E : Type 0} (r : Result A E) (X Y : Type 0) → (X → Y) → OnOk r X → OnOk r Y
given (Ok x) X Y f h = f h
given (Err e) X Y f h = tt

pub returns-clause-ok : goal.returns-clause-ok
returns-clause-ok c =
    let code = c.args.code.now in let old = c.args.self.now in let name = c.who_can-name.result in
    given c.do_late.result _ _ (λ done. subst (λ (e : Event). HasDoneEvent code (with_clock old (c.args.stamp - 1)) c.do_late.new.self e) (sym (c.requires.possible.is name c.who_can-name.ensures))
    (subst (λ (r : Ready). HasDoneEvent code (with_clock old (c.args.stamp - 1)) c.do_late.new.self (event_at code old name r)) c.ready_of.ensures done)) c.do_late.ensures.ok
