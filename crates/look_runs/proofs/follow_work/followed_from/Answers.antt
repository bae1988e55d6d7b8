use Rattle.std.proofs.Common.{sym, subst, ap, ◌∙◌}
use Rattle.np_calculus.specs.Config.{Config}
use Rattle.np_calculus.specs.Reductions.{run}
use Rattle.np_serial.specs.Replays.{StopsAt}
use Rattle.look_runs.proofs.follow_work.followed_from.Goals as goal

pub reported-text-requires : goal.reported-text-requires
reported-text-requires c = ap (λ (s : Config). run s c.args.events.now) (sym c.requires.start) ∙ c.in-Ok.ensures.reached

pub returns-in-Err-NotARun-clause-stops : goal.returns-in-Err-NotARun-clause-stops
returns-in-Err-NotARun-clause-stops c =
    let refused = rw c.in-Err-NotARun.field-0-is at c.in-Err-NotARun.ensures.refused in
    rw c.in-Err-NotARun.field-0-is (subst (λ (s : Config). StopsAt s c.args.events.now c.in-Err-NotARun.index) c.requires.start refused)
