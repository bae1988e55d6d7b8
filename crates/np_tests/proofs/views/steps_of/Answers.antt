use Rattle.np_tests.proofs.Viewing.{high_run}
use Rattle.np_tests.proofs.views.steps_of.Goals as goal

pub one_step-requires-clause-run : goal.one_step-requires-clause-run
one_step-requires-clause-run c = high_run c.args.program.now c.args.events.now c.args.high.now c.in_ok-last.last c.requires.high c.in_ok-last.ensures
