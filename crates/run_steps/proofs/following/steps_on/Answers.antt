use Rattle.std.proofs.Common.{◌≡◌, ◌+◌, ◌++◌, ap, drop, refl, subst, sym}
use Rattle.np_calculus.proofs.Runs.{goes-on}
use Rattle.np_serial.proofs.Runs.{stops-here}
use Rattle.run_steps.specs.Steps.{steps}
use Rattle.run_steps.proofs.Told.{steps-end, steps-on}
use Rattle.run_steps.proofs.following.steps_on.Goals as goal

pub loop-event-preserved : goal.loop-event-preserved
loop-event-preserved c =
    let start = c.args.reached.now in
    let events = c.args.events.now in
    let i = c.loop-event.event-index in
    let here = c.loop-event.invariant in
    let next = c.take_step.new.reached in
    record {
      counts = ap (λ n. n + 1) here.counts;
      reaches = goes-on start events i _ c.loop-event.reached c.loop-event-test.true here.reaches next c.in-Ok.ensures.made.applies;
      made = subst (λ l. l ++ steps next (drop (i + 1) events) ≡ steps start events) (sym c.in_ok-add_step-in-Ok.ensures.added)
          (steps-on c.loop-event.reached next events i _ c.loop-event.made c.in-Ok.step (steps start events) c.loop-event-test.true c.in-Ok.ensures.made here.made);
    }

pub returns-in-Err-NotEnabled-clause-refused : goal.returns-in-Err-NotEnabled-clause-refused
returns-in-Err-NotEnabled-clause-refused c =
    let told = rw c.in-Err-NotEnabled.field-0-is at c.in-Err-NotEnabled.ensures in
    rw c.loop-event.invariant.counts
    (stops-here c.args.reached.now c.args.events.now c.loop-event.event-index _ c.loop-event.reached c.loop-event-test.true c.loop-event.invariant.reaches (told.refused refl))

pub returns-clause-steps : goal.returns-clause-steps
returns-clause-steps c = steps-end c.loop-event.reached c.args.events.now c.loop-event.event-index c.loop-event.made _ c.loop-event-test.false c.loop-event.invariant.made
