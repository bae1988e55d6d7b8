use Rattle.std.proofs.Common.{◌+◌, arith, subst, sym}
use Rattle.run_views.proofs.Parts.{enabled-here}
use Rattle.run_views.specs.Causes.{index_of}
use Rattle.run_views.proofs.Tracings.{IsFollowed, followed-start, follows-on}
use Rattle.run_views.proofs.tracing.find_causes.Goals as goal

pub loop-place-init : goal.loop-place-init
loop-place-init c = followed-start c.args.reached.now c.args.events.now (index_of c.new-writers.result) c.new-found.result c.new-writers.ensures c.new-found.ensures

pub trace-requires : goal.trace-requires
trace-requires c = enabled-here c.args.reached.now c.args.events.now c.loop-place.place _ c.loop-place.reached (omega (arith, c.loop-place-test.true, c.requires.within)) c.loop-place.invariant.reaches c.requires.run

pub loop-place-preserved : goal.loop-place-preserved
loop-place-preserved c =
    subst (IsFollowed c.args.reached.now c.args.events.now (c.loop-place.place + 1) c.trace.new.reached (index_of c.trace.new.writers)) (sym c.in_ok-add.ensures)
    (follows-on c.args.reached.now c.args.events.now c.loop-place.place c.loop-place.reached c.trace.new.reached (index_of c.loop-place.writers) (index_of c.trace.new.writers) c.loop-place.found _ c.in_ok-causes.causes
    (omega (arith, c.loop-place-test.true, c.requires.within)) c.loop-place.invariant c.in_ok-causes.ensures)
