use Rattle.std.proofs.lemmas.Grind.{common_steps}
use Rattle.std.proofs.Common.{Some, refl, sym, ap, subst, ◌∙◌, arith}
use Rattle.np_syntax.specs.declared.event.Kind.TheVariants as kind
use Rattle.np_syntax.specs.declared.event.Made.TheVariants as made
use Rattle.np_calculus.specs.Changes.{still}
use Rattle.stamp_history.specs.Histories.{Recorded, with_event, with_said}
use Rattle.agent_pool.specs.Rows.{Reduces}
use Rattle.site_state.specs.Standings.{Standing}
use Rattle.site_state.proofs.Done.{done_as, has_done, same_quiet}
use Rattle.site_state.proofs.Lines.{lines_same}
use Rattle.site_state.proofs.Noted.{noted_no_names}
use Rattle.site_state.proofs.Rows.{print_not_local, print_not_post}
use Rattle.site_state.proofs.Sites.{on_any}
use Rattle.site_state.proofs.site.Site.do_print.Goals as goal

pub returns-in_err-value-clause-err : goal.returns-in_err-value-clause-err
returns-in_err-value-clause-err c =
    let code = c.args.code.now in
    rw (← c.self.view_is) (on_any c.from_residual-in_err-value.result record {
      same = record { site = refl; agents = c.in_err-value.ensures.err; next = refl; clock = refl; history = c.in_ok-room_to_say.ensures.history; outgoing = lines_same _ };
      quiet = λ q. same_quiet code _ _ refl refl (c.print_in.ensures.keeps.quiet code (same_quiet code _ _ refl refl q));
    })

pub invariant_of-self-2 : goal.invariant_of-self-2
invariant_of-self-2 c =
    let h = c.self.invariant.0 in
    let clock = h.clock in
    let stamp = c.tick-stamp.ensures.stamp in
    let history = c.push_print.ensures.history
    ∙ ap (λ (x : Recorded). with_said (with_event x (record { stamp = c.tick-stamp.result; event = c.event_of-event.result })) c.in_ok-value.value) c.in_ok-room_to_say.ensures.history in (
      noted_no_names _ _ (record { stamp = c.tick-stamp.result; event = c.event_of-event.result }) (Some c.in_ok-value.value) h (omega arith) refl (c.print_in.ensures.keeps.named h.named) refl
          c.tick-stamp.ensures.clock history,
      ap (λ (x : Recorded). x.budget) history ∙ c.self.invariant.1,
    )

pub returns-clause-ok : goal.returns-clause-ok
returns-clause-ok c =
    let s = c.self.inside in
    let code = c.args.code.now in
    let r = c.args.r in
    let value = c.in_ok-value.value in
    let agents = c.print_in.new.agents in
    let mid : Standing = record { site = s.site; agents = agents.agents; quiet = agents.quiet; next = s.next; clock = s.clock; history = s.history.history; outgoing = s.outgoing.lines } in
    let gone = c.in_ok-value.ensures.ok in
    done_as code c.args.self.now _ c.args.name r kind.Print made.Nothing c.requires.kind refl
    (rw (← c.self.view_is) (has_done c.law_own_events.ensures.on code _ mid _ c.args.name r made.Nothing (Some value)
    (record {
      before = gone.before;
      after = gone.after;
      stood = gone.stood;
      goes = subst (λ k. Reduces k code gone.before gone.after r made.Nothing (record still { said = Some value })) (sym c.requires.kind) gone.goes;
      agents = gone.agents;
      quiet = λ q. same_quiet code _ _ refl refl (c.print_in.ensures.keeps.quiet code (same_quiet code _ _ refl refl q));
      same = record { site = refl; next = refl; clock = refl; history = refl };
      outgoing = lines_same _;
    })
    (record {
      site = refl;
      agents = refl;
      quiet = refl;
      next = refl;
      clock = c.tick-stamp.ensures.clock ∙ c.tick-stamp.ensures.stamp;
      history = c.push_print.ensures.history ∙ (λ i. with_said (with_event (c.in_ok-room_to_say.ensures.history i) (record {
        stamp = c.tick-stamp.ensures.stamp i;
        event = c.event_of-event.ensures i;
      })) value);
      outgoing = refl;
    })
    (λ e. print_not_local (sym c.requires.kind ∙ e)) (λ e. print_not_post (sym c.requires.kind ∙ e)) tt))

pub invariant_of-self-in_err-value : goal.invariant_of-self-in_err-value
invariant_of-self-in_err-value c = grind (arith, common_steps)

pub tick-stamp-requires : goal.tick-stamp-requires
tick-stamp-requires c = grind (arith, common_steps)
