use Rattle.std.proofs.lemmas.Result.{IfOk-weaker}
use Rattle.look_pictures.specs.Looks.{IsPictureOfPart, events_at}
use Rattle.look_pictures.proofs.levels.part_of_level.Goals as goal

pub returns-in-Ok : goal.returns-in-Ok
returns-in-Ok c =
    IfOk-weaker c.part_shown.result _ (IsPictureOfPart c.args.stretch (events_at c.args.level c.args.wanted.now.infrastructure c.args.events.now))
    (λ text is. record { steps = c.in-Ok.run'.steps; of = c.in-Ok.ensures; shown = is }) c.part_shown.ensures
