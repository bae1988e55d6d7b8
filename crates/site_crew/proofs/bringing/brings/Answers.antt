use Rattle.std.proofs.Common.{◌≡◌, ◌∙◌, true, false, ap, sym}
use Rattle.np_syntax.specs.declared.event.Event.{Event}
use Rattle.np_syntax.specs.contracts.event.EventPartialEq.TheImpl as events
use Rattle.agent_move.specs.declared.load.Load.{Load}
use Rattle.item_events.specs.Coming.{event_for}
use Rattle.site_crew.proofs.Redoing.{event-is, event-itself}
use Rattle.site_crew.proofs.bringing.brings.Goals as goal

pub returns-clause-yes : goal.returns-clause-yes
returns-clause-yes c = λ yes.
    ap (λ (l : Load). event_for c.args.event.site l) (sym c.load.ensures) ∙ sym c.event_for.ensures ∙ event-is c.event_for.result c.args.event (sym c.eq.ensures ∙ yes)

pub returns-clause-no : goal.returns-clause-no
returns-clause-no c = λ no is.
    let same : c.event_for.result ≡ c.args.event = c.event_for.ensures ∙ ap (λ (l : Load). event_for c.args.event.site l) c.load.ensures ∙ is in
    let e : false ≡ true = sym no ∙ c.eq.ensures ∙ ap (λ (x : Event). events.eq-value.it x c.args.event) same ∙ event-itself c.args.event in absurd cc
