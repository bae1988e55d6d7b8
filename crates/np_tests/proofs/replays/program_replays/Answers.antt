use Rattle.np_words.specs.declared.modes.Infrastructure.TheVariants.{Central}
use Rattle.np_tests.proofs.replays.program_replays.Goals as goal

pub low_replays-replays-requires-clause-safe : goal.low_replays-replays-requires-clause-safe
low_replays-replays-requires-clause-safe g c κs within = c.law_low_runs_safely.ensures Central c.args.program.now _ c.program.ensures.accepted c.in_ok-low.ensures.gives
