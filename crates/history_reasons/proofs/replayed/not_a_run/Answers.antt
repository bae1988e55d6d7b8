use Rattle.std.proofs.Common.{◌∙◌, sym, ap}
use Rattle.np_calculus.specs.Reductions.{run}
use Rattle.np_calculus.specs.Starts.{start_low}
use Rattle.history_reasons.proofs.Told.{told-all, unreached, unrun}
use Rattle.history_reasons.proofs.replayed.not_a_run.Goals as goal

pub told_at-reasons-requires : goal.told_at-reasons-requires
told_at-reasons-requires c = record { low = c.args.low.now; runs = c.in-Ok.ensures.reached }

pub returns-then-events-index : goal.returns-then-events-index
returns-then-events-index c = unreached c.args.low.now c.args.events.now c.args.index c.if-events-index.true

pub returns-in-Ok : goal.returns-in-Ok
returns-in-Ok c =
    told-all c.args.low.now c.args.events.now _ c.args.index _ _ c.told_at-reasons.result c.split_at.ensures.front c.in-Ok.ensures.reached c.event_at.ensures c.told_at-reasons.ensures

pub returns-in-Err-NotARun : goal.returns-in-Err-NotARun
returns-in-Err-NotARun c =
    unrun c.args.low.now c.args.events.now c.args.index (ap (run (start_low c.args.low.now)) (sym c.split_at.ensures.front) ∙ c.in-Err-NotARun.ensures.none (λ same. let is = c.in-Err-NotARun.field-0-is in cc))
