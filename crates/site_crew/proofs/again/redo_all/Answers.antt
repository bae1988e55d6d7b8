use Rattle.std.proofs.lemmas.Grind.{common_steps}
use Rattle.std.proofs.Common.{◌≡◌, List, length, arith, refl, subst}
use Rattle.np_syntax.specs.declared.event.Event.{Event}
use Rattle.site_crew.specs.Following.{HaveDone}
use Rattle.site_crew.proofs.Clearing.{clear_first}
use Rattle.site_crew.proofs.Crewing.{grow_refl}
use Rattle.site_crew.proofs.Doing.{all_at, done_late, done_none, none_of, not_early}
use Rattle.site_crew.proofs.Enabled.{take-all}
use Rattle.site_crew.proofs.Replacing.{grows_rest}
use Rattle.site_crew.proofs.Running.{grow_trans}
use Rattle.site_crew.proofs.again.redo_all.Goals as goal

pub loop-k-init : goal.loop-k-init
loop-k-init g c = record { clear = clear_first c.requires.stand (none_of _ c.requires.none); done = done_none c.requires.stand c.requires.none c.requires.sound; grow = grow_refl _ }

pub loop-k-preserved : goal.loop-k-preserved
loop-k-preserved g c = record { clear = c.in_ok-redo_one.ensures.clear c.if-not-branch.false; done = c.in_ok-redo_one.ensures.ok c.if-not-branch.false; grow = grow_trans c.loop-k.invariant.grow c.redo_one.ensures.grow }

pub returns-in_err-redo_one-clause-grow : goal.returns-in_err-redo_one-clause-grow
returns-in_err-redo_one-clause-grow g c = grow_trans c.loop-k.invariant.grow c.redo_one.ensures.grow

pub returns-then-not-branch-clause-grow : goal.returns-then-not-branch-clause-grow
returns-then-not-branch-clause-grow g c = grow_trans c.loop-k.invariant.grow c.redo_one.ensures.grow

pub catch_all-requires-clause-early : goal.catch_all-requires-clause-early
catch_all-requires-clause-early g c κs within =
    let is : c.loop-k.k ≡ length c.args.events.now = omega arith in
    let done = subst (λ (l : List Event). HaveDone g.P.Port c.args.code.now c.args.budget l c.loop-k.seats) (take-all c.args.events.now c.loop-k.k is) c.loop-k.invariant.done in
    not_early done (length c.args.events.now) refl

pub returns-clause-grow : goal.returns-clause-grow
returns-clause-grow g c = grow_trans c.loop-k.invariant.grow (grows_rest c.catch_all.ensures.rest)

pub returns-clause-done : goal.returns-clause-done
returns-clause-done g c =
    let is : c.loop-k.k ≡ length c.args.events.now = omega arith in
    let done = subst (λ (l : List Event). HaveDone g.P.Port c.args.code.now c.args.budget l c.loop-k.seats) (take-all c.args.events.now c.loop-k.k is) c.loop-k.invariant.done in
    λ yes. done_late done c.catch_all.ensures.stand c.catch_all.ensures.rest

pub returns-clause-clocks : goal.returns-clause-clocks
returns-clause-clocks g c =
    let is : c.loop-k.k ≡ length c.args.events.now = omega arith in
    let done = subst (λ (l : List Event). HaveDone g.P.Port c.args.code.now c.args.budget l c.loop-k.seats) (take-all c.args.events.now c.loop-k.k is) c.loop-k.invariant.done in
    λ yes. all_at (done_late done c.catch_all.ensures.stand c.catch_all.ensures.rest) c.catch_all.ensures.late

pub returns-then-not-branch-clause-why : goal.returns-then-not-branch-clause-why
returns-then-not-branch-clause-why g c = λ no. record {
  place = c.loop-k.k;
  mid = c.loop-k.seats;
  done = c.loop-k.invariant.done;
  clear = c.loop-k.invariant.clear;
  grow = c.redo_one.ensures.grow;
  missed = c.in_ok-redo_one.ensures.why c.if-not-branch.true;
}

pub returns-clause-why : goal.returns-clause-why
returns-clause-why g c = grind (arith, common_steps)

pub returns-then-not-branch-clause-clocks : goal.returns-then-not-branch-clause-clocks
returns-then-not-branch-clause-clocks g c = grind (arith, common_steps)

pub returns-then-not-branch-clause-done : goal.returns-then-not-branch-clause-done
returns-then-not-branch-clause-done g c = grind (arith, common_steps)
