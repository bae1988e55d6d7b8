use Rattle.std.proofs.lemmas.Grind.{common_steps}
use Rattle.std.proofs.Common.{arith}
use borrow.Author.Rules.{scaled_Fits}
use Rattle.std.proofs.lemmas.Option.{slice_get-get_or}
use Rattle.site_crew.proofs.Clearing.{clear_alone}
use Rattle.site_crew.proofs.Placed.{added_placed, grow_placed, not_redone_placed, seated_placed, stand_placed}
use Rattle.site_crew.proofs.Redoing.{on_no, on_yes}
use Rattle.site_crew.proofs.again.redo_at.Goals as goal

pub offset_bounds-seats-at : goal.offset_bounds-seats-at
offset_bounds-seats-at g c = scaled_Fits _ _ _ c.requires.at (search (c.well_formed))

pub offset_bounds-seats-at-2 : goal.offset_bounds-seats-at-2
offset_bounds-seats-at-2 g c = scaled_Fits _ _ _ c.requires.at (search (c.well_formed))

pub redo-done-requires-clause-seated : goal.redo-done-requires-clause-seated
redo-done-requires-clause-seated g c κs within = seated_placed _ c.requires.at c.requires.stand.seats c.index-seats-at.result

pub redo-done-requires-clause-above : goal.redo-done-requires-clause-above
redo-done-requires-clause-above g c κs within = c.requires.above _ (slice_get-get_or c.args.seats.now c.args.event.site c.index-seats-at.result c.requires.at)

pub returns-clause-stand : goal.returns-clause-stand
returns-clause-stand g c = stand_placed _ c.requires.at c.index-seats-at.result c.args.stamp c.redo-done.ensures.turned c.requires.stand
    (c.requires.above _ (slice_get-get_or c.args.seats.now c.args.event.site c.index-seats-at.result c.requires.at)) c.requires.early c.redo-done.ensures.port c.index-seats-at-2.result c.count.ensures.history

pub returns-clause-grow : goal.returns-clause-grow
returns-clause-grow g c = grow_placed _ c.requires.at c.index-seats-at.result c.args.stamp c.redo-done.ensures.turned

pub returns-clause-clear : goal.returns-clause-clear
returns-clause-clear g c =
    clear_alone c.args.event.site c.redo-done.new.seat (slice_get-get_or c.args.seats.now c.args.event.site c.index-seats-at.result c.requires.at) c.redo-done.ensures.port.0 c.redo-done.ensures.aside

pub returns-clause-ok : goal.returns-clause-ok
returns-clause-ok g c = on_yes c.redo-done.result (added_placed c.args.event c.args.stamp _ c.requires.at c.index-seats-at.result c.redo-done.new.seat) c.redo-done.ensures.ok

pub returns-clause-why : goal.returns-clause-why
returns-clause-why g c = on_no c.redo-done.result (not_redone_placed c.args.event c.args.stamp _ c.requires.at c.index-seats-at.result c.redo-done.new.seat c.args.code.now) c.redo-done.ensures.why

pub bounds-seats-at-2 : goal.bounds-seats-at-2
bounds-seats-at-2 g c = grind (arith, common_steps)
