use Rattle.std.proofs.Common.{refl}
use Rattle.std.proofs.lemmas.Option.{slice_get-get_or as element}
use Rattle.np_example_files.proofs.Latest.{here, passed_other}
use Rattle.np_example_files.proofs.Places.{refuted}
use Rattle.np_example_files.proofs.change.latest_behind.Goals as goal

pub returns-then-is_of_actor : goal.returns-then-is_of_actor
returns-then-is_of_actor c =
    here c.args.events.now c.args.actor c.args.at _ (element c.args.events.now c.args.at _ c.requires.place) (c.if-is_of_actor.ensures.0 refl)

pub returns-else-is_of_actor : goal.returns-else-is_of_actor
returns-else-is_of_actor c =
    passed_other c.args.events.now c.args.actor c.args.at _ c.args.latest (element c.args.events.now c.args.at _ c.requires.place) (refuted c.if-is_of_actor.ensures.1) c.requires.before
