use Rattle.std.proofs.Common.{List, subst, sym}
use Rattle.np_syntax.specs.declared.event.Event.{Event}
use Rattle.np_calculus.specs.Reductions.{run}
use Rattle.np_calculus.specs.Starts.{start_low}
use Rattle.np_calculus.specs.Well.{Has}
use Rattle.np_tests.proofs.views.told_of_low.Goals as goal

pub told_of-requires-clause-run : goal.told_of-requires-clause-run
told_of-requires-clause-run c =
    subst (λ (es : List Event). Has (run (start_low c.args.low.now) es)) (sym c.as_slice.ensures) (_, c.in_ok-events.ensures.reaches)
