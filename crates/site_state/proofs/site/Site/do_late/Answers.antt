use Rattle.std.proofs.Common.{◌+◌, ℕ, length, sym, ap, subst, subst₂, ◌∙◌, arith}
use Rattle.stamp_history.specs.Histories.{IsAboveLast, Recorded}
use Rattle.site_state.specs.Doing.{HasRoom}
use Rattle.site_agents.specs.Standings.{CanDo}
use Rattle.site_state.specs.Standings.{Standing, with_clock}
use Rattle.site_state.proofs.Forced.{done_later, raised_to, stays_back, stays_raised}
use Rattle.site_state.proofs.site.Site.do_late.Goals as goal

pub do_event-requires-clause-sites : goal.do_event-requires-clause-sites
do_event-requires-clause-sites c = c.requires.sites ∙ ap (λ (s : Standing). length s.outgoing) (sym c.catch_up.ensures)

pub do_event-requires-clause-room : goal.do_event-requires-clause-room
do_event-requires-clause-room c = subst HasRoom (sym c.catch_up.ensures) c.requires.room

pub do_event-requires-clause-can : goal.do_event-requires-clause-can
do_event-requires-clause-can c = subst (λ (s : Standing). CanDo c.args.code.now s.agents c.args.name c.args.r) (sym c.catch_up.ensures) c.requires.can

pub returns-in-Ok-clause-ok : goal.returns-in-Ok-clause-ok
returns-in-Ok-clause-ok c =
    done_later c.args.code.now c.args.self.now c.catch_up.new.self _ _ (raised_to _ _ _ c.requires.above c.catch_up.ensures) c.args.name c.args.r c.in-Ok.ensures.ok

pub returns-in-Ok-clause-clock : goal.returns-in-Ok-clause-clock
returns-in-Ok-clause-clock c =
    let above = c.requires.above in
    let raised = ap (λ (s : Standing). s.clock) (raised_to _ _ _ above c.catch_up.ensures) in
    let ticked = c.in-Ok.ensures.ok.did.clock in
    omega arith

pub set_back-requires-clause-earlier : goal.set_back-requires-clause-earlier
set_back-requires-clause-earlier c =
    let above = c.requires.above in
    let raised = ap (λ (s : Standing). s.clock) (raised_to _ _ _ above c.catch_up.ensures) in
    let same = c.in-Err.ensures.err.same.clock in
    let was = c.stamp-earlier.ensures.stamp in
    omega arith

pub set_back-requires-clause-last : goal.set_back-requires-clause-last
set_back-requires-clause-last c =
    let same = c.in-Err.ensures.err.same.history ∙ ap (λ (s : Standing). s.history) c.catch_up.ensures in
    subst₂ (λ (h : Recorded) (n : ℕ). IsAboveLast h.events (n + 1)) (sym same) (sym c.stamp-earlier.ensures.stamp) c.stamp-earlier.ensures.standing.last

pub returns-in-Err-clause-err : goal.returns-in-Err-clause-err
returns-in-Err-clause-err c =
    stays_back c.args.code.now c.args.self.now c.do_event.new.self _ _ (stays_raised c.args.code.now c.args.self.now c.catch_up.new.self _ _ c.catch_up.ensures c.in-Err.ensures.err)
    (c.set_back.ensures ∙ ap (with_clock c.do_event.new.self) c.stamp-earlier.ensures.stamp)
