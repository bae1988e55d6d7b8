use Rattle.std.proofs.Common.{◌≡◌, ◌+◌, ◌-◌, ◌<◌, ◌∙◌, ap, arith, length, subst, sym, true}
use Rattle.std.proofs.lemmas.Option.{slice_get-get_or}
use Rattle.run_views.specs.Causes.{AreMarked, is_marked}
use Rattle.run_views.proofs.Marks.{first-marked, marks-below, step-marked}
use Rattle.run_views.proofs.marking.mark_back.Goals as goal

pub loop-place-init : goal.loop-place-init
loop-place-init c = subst (AreMarked c.args.found.now c.args.index _) (sym c.in_ok-marked.ensures) (first-marked c.args.found.now c.args.index c.requires.count)

pub mark_all-requires : goal.mark_all-requires
mark_all-requires c =
    let at = c.loop-place.auto.place in
    let test = c.loop-place-test.true in
    marks-below c.args.found.now c.requires.before c.loop-place.marked (c.loop-place.place - 1) _ c.loop-place.invariant.count (omega arith)

pub loop-place-preserved-then-as_slice-place : goal.loop-place-preserved-then-as_slice-place
loop-place-preserved-then-as_slice-place c =
    let found = c.args.found.now in
    let j = c.loop-place.place - 1 in
    let ms = c.loop-place.marked in
    let at = c.loop-place.auto.place in
    let test = c.loop-place-test.true in
    let from : c.loop-place.place ≡ j + 1 = omega arith in
    let below : j < length found = omega arith in
    let on : is_marked ms j ≡ true = ap (λ l. is_marked l j) (sym c.as_slice.ensures) ∙ c.if-as_slice-place.true in
    subst (AreMarked found c.args.index j) (sym c.mark_all.ensures)
    (step-marked found c.requires.before c.args.index j ms (subst (λ n. AreMarked found c.args.index n ms) from c.loop-place.invariant) _ on (slice_get-get_or found j _ below))
