use Rattle.np_words.specs.declared.modes.Infrastructure.TheVariants.{Cache}
use Rattle.np_tests.proofs.replays.program_cached_replays.Goals as goal

pub low_cached_replays-replays-requires-clause-safe : goal.low_cached_replays-replays-requires-clause-safe
low_cached_replays-replays-requires-clause-safe g c κs within = c.law_low_runs_safely.ensures Cache c.args.program.now _ c.program.ensures.accepted c.in_ok-low.ensures.gives
