use Rattle.std.proofs.Common.{◌≡◌, ◌++◌, ◌+◌, arith, drop, sym, subst, ◌∙◌}
use Rattle.run_views.specs.Past.{picked}
use Rattle.run_views.specs.Causes.{is_marked}
use Rattle.run_views.proofs.Marks.{picked-end, picked-off, picked-on}
use Rattle.run_views.proofs.marking.marked_events.Goals.{then-marked-place+in_ok-add, else-marked-place}
use Rattle.run_views.proofs.marking.marked_events.Goals as goal

pub loop-place-preserved : goal.loop-place-preserved
loop-place-preserved c =
    let ms = c.args.marked.now in
    let events = c.args.events.now in
    let j = c.loop-place.place in
    elim c.if-marked-place.branch [
      | then-marked-place+in_ok-add w ↦ subst (λ made. made ++ picked (is_marked ms) (j + 1) (drop (j + 1) events) ≡ picked (is_marked ms) 0 events) (sym (w.made-is ∙ w.in_ok-add.ensures))
          (picked-on ms j c.loop-place.made events _ _ (omega (arith, c.loop-place-test.true, c.requires)) w.if-marked-place.true c.loop-place.invariant)
      | else-marked-place w ↦ subst (λ made. made ++ picked (is_marked ms) (j + 1) (drop (j + 1) events) ≡ picked (is_marked ms) 0 events) (sym w.made-is)
          (picked-off ms j c.loop-place.made events _ (omega (arith, c.loop-place-test.true, c.requires)) w.if-marked-place.false c.loop-place.invariant)
    ]

pub returns : goal.returns
returns c = picked-end c.args.marked.now c.loop-place.place c.loop-place.made _ _ c.loop-place-test.false c.loop-place.invariant
