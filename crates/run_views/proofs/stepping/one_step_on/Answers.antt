use Rattle.std.proofs.Common.{IsSome, subst, sym}
use Rattle.run_views.proofs.Steppings.{enabled-next}
use Rattle.run_views.proofs.stepping.one_step_on.Goals as goal

pub advance-requires : goal.advance-requires
advance-requires c = enabled-next c.loop-event.reached c.args.high.now c.loop-event.event-index _ c.loop-event-test.true (subst IsSome (sym c.loop-event.invariant.leads) c.requires)
