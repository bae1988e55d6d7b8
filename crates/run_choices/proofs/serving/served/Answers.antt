use Rattle.std.proofs.Common.{◌≡◌, None, Some, sym, subst, ◌∙◌}
use Rattle.np_syntax.specs.declared.event.Event.{Event}
use Rattle.np_syntax.proofs.Options.{done}
use Rattle.np_calculus.specs.Reductions.{apply}
use Rattle.np_calculus.specs.Well.{Has}
use Rattle.run_choices.proofs.Turned.{noted-served}
use Rattle.run_choices.proofs.serving.served.Goals as goal

pub unreachable-requires : goal.unreachable-requires
unreachable-requires c =
    let r = c.requires.course in
    let v = noted-served r.0 c.args.c.now c.args.notes.now r.1 r.2 c.args.choice c.requires.choice in
    let e : Some v.0 ≡ None = sym v.1 ∙ sym c.in_ok-event.ensures ∙ c.in-None.is in
    cc

pub returns-clause-enabled : goal.returns-clause-enabled
returns-clause-enabled c =
    let r = c.requires.course in
    let v = noted-served r.0 c.args.c.now c.args.notes.now r.1 r.2 c.args.choice c.requires.choice in
    let e : Some v.0 ≡ Some c.in-Some.event = sym v.1 ∙ sym c.in_ok-event.ensures ∙ c.in-Some.is in
    subst (λ (x : Event). Has (apply c.args.c.now x)) (sym (done e)) v.2
