use Rattle.std.proofs.Common.{List, ap, subst, sym, ◌∙◌}
use Rattle.stamp_history.specs.Histories.{Recorded}
use Rattle.stamp_history.specs.declared.stamped.Stamped.{Stamped}
use Rattle.site_crew.specs.Bringing.{IsLast}
use Rattle.site_crew.proofs.Redoing.{last_found, last_missed}
use Rattle.site_crew.proofs.bringing.is_last.Goals as goal

pub returns-clause-yes : goal.returns-clause-yes
returns-clause-yes g c = λ is.
    subst (λ (l : List Stamped). IsLast l (record { stamp = c.args.stamp; event = c.args.event })) (c.events-events.ensures.events ∙ ap (λ (h : Recorded). h.events) c.history.ensures.history)
    (last_found c.events-events.result.now _ c.args.stamp c.args.event c.eq.result c.if-n-eq0.false c.if-last-stamp.false c.eq.ensures is)

pub returns-clause-no : goal.returns-clause-no
returns-clause-no g c = λ missed last.
    last_missed c.events-events.result.now _ c.args.stamp c.args.event c.eq.result c.eq.ensures missed
    (subst (λ (l : List Stamped). IsLast l (record { stamp = c.args.stamp; event = c.args.event })) (sym (c.events-events.ensures.events ∙ ap (λ (h : Recorded). h.events) c.history.ensures.history)) last)
