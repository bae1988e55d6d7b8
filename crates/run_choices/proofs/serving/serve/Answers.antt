use Rattle.std.proofs.Common.{List, sym, subst}
use Rattle.np_syntax.specs.declared.event.Event.{Event}
use Rattle.np_serial.proofs.SerialEvents.{run-push}
use Rattle.run_choices.specs.InTurn.{IsCourse}
use Rattle.run_choices.proofs.Turned.{course-goes-on}
use Rattle.run_choices.proofs.serving.serve.Goals as goal

pub returns-clause-course : goal.returns-clause-course
returns-clause-course c = λ start course.
    (let c0 = c.args.c.now in
    let c1 = c.make.new.c in
    let e = c.in_ok-event.event in
    let old = c.args.events.now in
    let leads = c.in_ok-make.ensures.leads in
    let reaches = run-push start old e c0 c1 course.run.reaches leads in
    subst (λ (es : List Event). IsCourse start c1 c.note.new.self es) (sym c.in_ok-make.ensures.noted)
    (course-goes-on start c0 c.args.notes.now old course c.args.choice e c1 c.note.new.self c.in_ok-note.field-0 c.requires.choice c.in_ok-event.ensures.event leads
    (c.in_ok-note.ensures start c0 old course.noted course.run.reaches leads course.run.ours) reaches))
