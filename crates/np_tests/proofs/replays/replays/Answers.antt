use Rattle.std.proofs.Common.{◌∙◌}
use Rattle.daemon_encode.specs.Encoded.{encoded}
use Rattle.np_tests.proofs.Replaying.{events_rest, events_run, merged_runs}
use Rattle.np_tests.proofs.replays.replays.Goals as goal

pub print_alike-requires-clause-merged : goal.print_alike-requires-clause-merged
print_alike-requires-clause-merged c = merged_runs c.args.low.now _ _ _ c.requires.run _ c.as_slice-histories.ensures

pub print_alike-requires-clause-run : goal.print_alike-requires-clause-run
print_alike-requires-clause-run c =
    events_run c.args.low.now _ _ _ c.requires.run _ _ c.as_slice-histories.ensures (c.as_slice-events.ensures ∙ c.in_ok-merged.ensures)
    (encoded c.args.program.now) c.requires.low

pub rests-requires : goal.rests-requires
rests-requires c = events_rest c.args.low.now _ _ _ c.requires.run _ _ c.as_slice-histories.ensures (c.as_slice-events.ensures ∙ c.in_ok-merged.ensures) c.args.program.now c.requires.low
