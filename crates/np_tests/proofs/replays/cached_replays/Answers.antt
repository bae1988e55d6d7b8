use Rattle.std.proofs.Common.{refl, ◌∙◌}
use Rattle.cache_encode.specs.Encoded.{encoded_cached}
use Rattle.np_tests.proofs.Replaying.{events_run}
use Rattle.np_tests.proofs.replays.cached_replays.Goals as goal

pub rests_cached-requires : goal.rests_cached-requires
rests_cached-requires c =
    let low = encoded_cached c.args.program.now in
    events_run low _ _ _ c.requires _ _ c.as_slice-histories.ensures (c.as_slice.ensures ∙ c.in_ok-merged.ensures) low refl
