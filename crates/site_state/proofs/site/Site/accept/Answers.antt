use Rattle.std.proofs.lemmas.Grind.{common_steps}
use Rattle.std.proofs.Common.{◌+◌, max, None, refl, sym, ap, subst, ◌∙◌, arith}
use Rattle.item_events.specs.Coming.{event_for}
use Rattle.site_state.specs.Coming.{HasCome}
use Rattle.site_state.specs.Parts.{IsNoted}
use Rattle.site_state.specs.Standings.{Standing}
use Rattle.site_state.proofs.Arrivals.{has_taken}
use Rattle.site_state.proofs.Done.{same_quiet}
use Rattle.site_state.proofs.Lines.{lines_same}
use Rattle.site_state.proofs.site.Site.accept.Goals as goal

pub returns-in-Ok-clause-ok : goal.returns-in-Ok-clause-ok
returns-in-Ok-clause-ok c =
    let s = c.self.inside in
    let agents = c.take_in-event.new.agents in
    let mid : Standing = record { site = s.site; agents = agents.agents; quiet = agents.quiet; next = s.next; clock = s.clock; history = s.history.history; outgoing = s.outgoing.lines } in
    let event = c.take_in-event.result in
    let new = c.note_taken.new.self in
    let law = c.law_coming.ensures in
    rw (← c.self.view_is) (has_taken law.agent law.packet law.lost _ mid new c.args.item event c.room_for.new.agents.agents c.room_for.ensures.same
    (c.room_for.ensures.keeps.named c.self.invariant.0.named)
    (subst (λ l. HasCome c.room_for.new.agents.agents l agents.agents) c.unpack-stamp.ensures.load c.take_in-event.ensures.come)
    (c.requires.to ∙ sym (ap (λ (s : Standing). s.site) c.self.view_is)) c.args.item.addressed
    (c.take_in-event.ensures.event ∙ ap (event_for s.site) c.unpack-stamp.ensures.load) (record { site = refl; next = refl; clock = refl; history = refl }) refl
    (λ code q. same_quiet code _ _ refl refl (c.take_in-event.ensures.keeps.quiet code (c.room_for.ensures.keeps.quiet code (same_quiet code _ _ refl refl q))))
    (subst (λ n. IsNoted mid (max mid.clock n + 1) event None new) c.unpack-stamp.ensures.stamp c.note_taken.ensures))

pub returns-in-Err-clause-err : goal.returns-in-Err-clause-err
returns-in-Err-clause-err c = rw (← c.self.view_is) record {
  same = record { site = refl; agents = c.room_for.ensures.same; next = refl; clock = refl; history = refl; outgoing = lines_same _ };
  quiet = λ code q. same_quiet code _ _ refl refl (c.room_for.ensures.keeps.quiet code (same_quiet code _ _ refl refl q));
}

pub invariant_of-self : goal.invariant_of-self
invariant_of-self c = grind (arith, common_steps)
