use Rattle.std.proofs.lemmas.Option.{slice_get-get_or as element}
use Rattle.np_example_files.proofs.Departures.{after_other}
use Rattle.np_example_files.proofs.Places.{full, refuted}
use Rattle.np_example_files.proofs.change.departure_behind.Goals as goal
use Rattle.np_example_files.proofs.change.departure_behind.Goals.{else-is_none-via-then-is_none+else-is_departure, else-is_none-via-else-is_none}

pub returns-else-is_none : goal.returns-else-is_none
returns-else-is_none c =
    after_other c.args.events.now c.args.agent c.args.at _ c.args.departure (element c.args.events.now c.args.at _ c.requires.place) (refuted c.if-is_arrival_of.ensures.1)
    (elim c.else-is_none.branch [
      | else-is_none-via-then-is_none+else-is_departure w ↦ λ departs none. refuted w.if-is_departure.ensures.1 departs
      | else-is_none-via-else-is_none w ↦ λ departs none. full c.args.departure w.if-is_none.ensures none
    ])
    c.requires.before
