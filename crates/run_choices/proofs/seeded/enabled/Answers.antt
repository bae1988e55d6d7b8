use Rattle.std.proofs.Common.{◌≡◌, None, Some, sym, subst, ◌∙◌}
use Rattle.np_syntax.specs.declared.event.Event.{Event}
use Rattle.np_syntax.proofs.Options.{done}
use Rattle.np_serial.specs.Serial.{IsEnabled}
use Rattle.run_choices.proofs.Named.{each-can-go}
use Rattle.run_choices.proofs.seeded.enabled.Goals as goal

pub unreachable-requires : goal.unreachable-requires
unreachable-requires c =
    let g = each-can-go c.args.c.now c.args.choice c.args.fresh.first c.args.fresh.second c.requires.reached c.requires.choice c.requires.new in
    let e : Some g.0 ≡ None = sym g.1 ∙ sym c.in_ok-event.ensures ∙ c.in-None.is in
    cc

pub returns-clause-enabled : goal.returns-clause-enabled
returns-clause-enabled c =
    let g = each-can-go c.args.c.now c.args.choice c.args.fresh.first c.args.fresh.second c.requires.reached c.requires.choice c.requires.new in
    let e : Some g.0 ≡ Some c.in-Some.event = sym g.1 ∙ sym c.in_ok-event.ensures ∙ c.in-Some.is in
    subst (λ (x : Event). IsEnabled c.args.c.now x c.args.fresh.first c.args.fresh.second) (sym (done e)) g.2
