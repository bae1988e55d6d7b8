use Rattle.np_words.specs.declared.modes.Infrastructure.TheVariants.{Central}
use Rattle.np_tests.proofs.crews.crew_has_failed.Goals as goal

pub has_failed-failed-requires-clause-safe : goal.has_failed-failed-requires-clause-safe
has_failed-failed-requires-clause-safe g c κs within = c.law_low_runs_safely.ensures Central c.args.program.now _ c.program.ensures.accepted c.in_ok-low.ensures.gives
