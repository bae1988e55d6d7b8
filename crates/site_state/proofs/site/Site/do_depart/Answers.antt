use Rattle.std.proofs.lemmas.Grind.{common_steps}
use Rattle.std.proofs.Common.{◌<◌, None, length, refl, sym, ap, subst, ◌∙◌, arith}
use Rattle.np_syntax.specs.declared.event.Kind.TheVariants as kind
use Rattle.np_syntax.specs.declared.event.Made.TheVariants as made
use Rattle.stamp_history.specs.Histories.{Recorded, with_event}
use Rattle.site_state.specs.Standings.{Standing}
use Rattle.site_state.proofs.Aims.{departs_within}
use Rattle.site_state.proofs.Done.{done_as, same_quiet}
use Rattle.site_state.proofs.Left.{has_left}
use Rattle.site_state.proofs.Lines.{put_after}
use Rattle.site_state.proofs.Noted.{noted_no_names}
use Rattle.site_state.proofs.Sites.{on_any}
use Rattle.site_state.proofs.site.Site.do_depart.Goals as goal

pub returns-in_err-to-clause-err : goal.returns-in_err-to-clause-err
returns-in_err-to-clause-err c =
    let code = c.args.code.now in
    rw (← c.self.view_is) (on_any c.from_residual-in_err-to.result record {
      same = record { site = refl; agents = c.in_err-to.ensures.err; next = refl; clock = refl; history = refl; outgoing = c.in_ok-reserve.ensures.lines };
      quiet = λ q. same_quiet code _ _ refl refl (c.depart_in.ensures.keeps.quiet code (same_quiet code _ _ refl refl q));
    })

pub put-requires-clause-to : goal.put-requires-clause-to
put-requires-clause-to c =
    let gone = c.in_ok-to.ensures.ok in
    subst (λ n. c.in_ok-to.to < n) (c.requires.sites ∙ ap (λ (s : Standing). length s.outgoing) (sym c.self.view_is) ∙ sym c.in_ok-reserve.ensures.lines.sites)
    (departs_within c.args.code.now gone.before c.in_ok-to.agent c.args.r c.in_ok-to.to gone.goes)

pub invariant_of-self-2 : goal.invariant_of-self-2
invariant_of-self-2 c =
    let h = c.self.invariant.0 in
    let clock = h.clock in
    let stamp = c.tick-stamp.ensures.stamp in (
      noted_no_names _ _ (record { stamp = c.tick-stamp.result; event = c.event_of-event.result }) None h (omega arith) refl (c.depart_in.ensures.keeps.named h.named) refl
          c.tick-stamp.ensures.clock c.push.ensures.history,
      ap (λ (x : Recorded). x.budget) c.push.ensures.history ∙ c.self.invariant.1,
    )

pub returns-clause-ok : goal.returns-clause-ok
returns-clause-ok c =
    let s = c.self.inside in
    let code = c.args.code.now in
    let gone = c.in_ok-to.ensures.ok in
    done_as code c.args.self.now _ c.args.name c.args.r kind.Depart made.Nothing c.requires.kind refl
    (rw (← c.self.view_is) (has_left code _ _ c.args.r c.pack_agent-item.result c.in_ok-to.to
    (record {
      site = refl;
      next = refl;
      clock = c.tick-stamp.ensures.clock ∙ c.tick-stamp.ensures.stamp;
      history = c.push.ensures.history ∙ (λ i. with_event s.history.history (record { stamp = (sym c.tick-stamp.ensures.clock) i; event = c.event_of-event.ensures i }));
      quiet = λ q. same_quiet code _ _ refl refl (c.depart_in.ensures.keeps.quiet code (same_quiet code _ _ refl refl q));
      outgoing = put_after _ _ _ c.in_ok-to.to c.pack_agent-item.result c.in_ok-reserve.ensures.lines c.put.ensures.put;
      stamp = c.pack_agent-item.ensures.stamp ∙ sym c.tick-stamp.ensures.clock;
      from = c.pack_agent-item.ensures.from;
      to_is = c.pack_agent-item.ensures.to;
      within = subst (λ n. c.in_ok-to.to < n) (c.requires.sites ∙ ap (λ (s : Standing). length s.outgoing) (sym c.self.view_is))
          (departs_within c.args.code.now gone.before c.in_ok-to.agent c.args.r c.in_ok-to.to gone.goes);
    })
    c.law_leaving.ensures.agent c.args.name c.in_ok-to.agent c.requires.kind c.pack_agent-item.ensures.load gone))

pub tick-stamp-requires : goal.tick-stamp-requires
tick-stamp-requires c = grind (arith, common_steps)

pub push-requires-clause-kind : goal.push-requires-clause-kind
push-requires-clause-kind g c = grind (arith, common_steps)

pub invariant_of-self-in_err-to : goal.invariant_of-self-in_err-to
invariant_of-self-in_err-to c = grind (arith, common_steps)
