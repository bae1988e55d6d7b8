use Rattle.std.proofs.lemmas.Result.{IfOk-weaker}
use Rattle.look_pictures.specs.Looks.{IsPictureOf, events_at}
use Rattle.look_pictures.proofs.levels.one_level.Goals as goal

pub returns-in-Ok : goal.returns-in-Ok
returns-in-Ok c =
    IfOk-weaker c.shown.result _ (IsPictureOf (events_at c.args.level c.args.wanted.now.infrastructure c.args.events.now))
    (λ text is. record { steps = c.in-Ok.followed.steps; of = c.in-Ok.ensures; picture = is }) c.shown.ensures
