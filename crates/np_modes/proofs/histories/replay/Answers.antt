use Rattle.std.proofs.Common.{inl}
use Rattle.np_modes.proofs.Later.{replay_made, replay_refused}
use Rattle.np_modes.proofs.histories.replay.Goals as goal

pub returns-in-Ok-clause-made : goal.returns-in-Ok-clause-made
returns-in-Ok-clause-made g c =
    replay_made _ _ _ _ _ _ _ _ _ _ c.read_low.ensures.held c.read_low.ensures.later c.args.source.now c.args.history.now c.args.infrastructure c.in-Ok.low c.args.view c.in-Ok.ensures.made
    c.replay_low.result c.replay_low.ensures.made

pub returns-in-Ok-clause-refused : goal.returns-in-Ok-clause-refused
returns-in-Ok-clause-refused g c =
    replay_refused _ _ _ _ _ _ _ _ _ _ c.read_low.ensures.held c.read_low.ensures.later c.args.source.now c.args.history.now c.args.infrastructure c.in-Ok.low c.args.view c.in-Ok.ensures.made
    c.replay_low.result c.replay_low.ensures.refused

pub returns-in-Err-clause-refused : goal.returns-in-Err-clause-refused
returns-in-Err-clause-refused g c = λ some. inl (c.in-Err.ensures.refused some)
