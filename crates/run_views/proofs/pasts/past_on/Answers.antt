use Rattle.std.proofs.Common.{◌+◌, ap, arith, length, subst, sym, ◌∙◌}
use Rattle.std.proofs.lemmas.Result.{IfOk-weaker}
use Rattle.run_views.specs.Past.{IsPastOf, picked, traces}
use Rattle.run_views.specs.Causes.{AreCauses, AreMarked, is_marked}
use Rattle.run_views.proofs.Marks.{are-before}
use Rattle.run_views.proofs.PrintPasts.{is-past}
use Rattle.run_views.proofs.pasts.past_on.Goals as goal

pub mark_back-requires-clause-count : goal.mark_back-requires-clause-count
mark_back-requires-clause-count c = ap length c.as_slice.ensures ∙ c.in_ok-found.ensures.count

pub mark_back-requires-clause-before : goal.mark_back-requires-clause-before
mark_back-requires-clause-before c =
    let ts = traces c.args.reached.now c.args.events.now in
    are-before ts (c.args.index + 1) c.as_slice.result.now (subst (AreCauses ts (c.args.index + 1)) (sym c.as_slice.ensures) c.in_ok-found.ensures)

pub marked_events-requires : goal.marked_events-requires
marked_events-requires c =
    let same = ap length c.as_slice-2.ensures ∙ (c.in_ok-marked.ensures.count ∙ (ap length c.as_slice.ensures ∙ c.in_ok-found.ensures.count)) in
    omega (arith, same, c.requires.within)

pub returns : goal.returns
returns c =
    let start = c.args.reached.now in
    let events = c.args.events.now in
    let marks = subst (λ found. AreMarked found c.args.index 0 c.in_ok-marked.marked) c.as_slice.ensures c.in_ok-marked.ensures in
    IfOk-weaker c.marked_events.result _ (IsPastOf start events c.args.index)
    (λ past answer. is-past start events past c.args.index c.in_ok-found.found c.in_ok-marked.marked c.in_ok-found.ensures marks (answer ∙ ap (λ ms. picked (is_marked ms) 0 events) c.as_slice-2.ensures)) c.marked_events.ensures
