use Rattle.std.proofs.lemmas.Grind.{common_steps}
use Rattle.std.proofs.Common.{◌<◌, ℕ, List, get_or, inl, length, set, sym, ◌∙◌, arith, length-set}
use borrow.Author.Rules.{scaled_Fits}
use Rattle.std.proofs.lemmas.Option.{slice_get-get_or}
use Rattle.site_links.specs.declared.port.Port as Port
use Rattle.site_links.proofs.Rows.{get-set_other, get-set_same}
use Rattle.agent_move.specs.declared.item.Item.{Item}
use Rattle.site_turn.specs.declared.seat.Seat.{Seat}
use Rattle.site_crew.specs.Bringing.{OneGoesOn}
use Rattle.site_crew.proofs.Placed.{added_placed, grow_placed, history_placed, seated_placed}
use Rattle.site_crew.proofs.Redoing.{on_no, on_yes}
use Rattle.site_crew.proofs.Replacing.{stand_moved}
use Rattle.site_crew.proofs.bringing.take_at.Goals as goal

one-on : {P R : Type 0} {g : Port.Ghosts P R Item} (Goes : Seat P → Seat P → Type 0) (at : ℕ) (xs : List (Seat P)) (x c : Seat P) → at < length xs → Goes (get_or xs at x) c
    → OneGoesOn g at xs (set xs at c) Goes
one-on Goes at xs x c within goes = record {
  old = get_or xs at x;
  new = c;
  was = slice_get-get_or xs at x within;
  is = get-set_same xs at c within;
  count = length-set xs at c;
  others = λ k s apart is. let same = get-set_other xs at k c apart in sym same ∙ is;
  goes = goes;
}

pub offset_bounds-seats-at : goal.offset_bounds-seats-at
offset_bounds-seats-at g c = scaled_Fits _ _ _ c.requires.at (search (c.well_formed))

pub offset_bounds-seats-at-2 : goal.offset_bounds-seats-at-2
offset_bounds-seats-at-2 g c = scaled_Fits _ _ _ c.requires.at (search (c.well_formed))

pub take_for-took-requires-after_bounds : goal.take_for-took-requires-after_bounds
take_for-took-requires-after_bounds g c κs within = seated_placed _ c.requires.at c.requires.stand.seats c.index-seats-at.result

pub returns-clause-stand : goal.returns-clause-stand
returns-clause-stand g c =
    stand_moved c.requires.stand (slice_get-get_or c.args.seats.now c.args.event.site c.index-seats-at.result c.requires.at) (c.take_for-took.ensures.moves c.args.event.site)
    (history_placed _ c.requires.at c.take_for-took.new.seat c.index-seats-at-2.result c.count.ensures.history)

pub returns-clause-grow : goal.returns-clause-grow
returns-clause-grow g c = grow_placed _ c.requires.at c.index-seats-at.result c.args.stamp (inl (c.take_for-took.ensures.moves c.args.event.site).turned)

pub returns-clause-yes : goal.returns-clause-yes
returns-clause-yes g c = on_yes c.take_for-took.result (added_placed c.args.event c.args.stamp _ c.requires.at c.index-seats-at.result c.take_for-took.new.seat) c.take_for-took.ensures.yes

pub returns-clause-got : goal.returns-clause-got
returns-clause-got g c =
    on_yes c.take_for-took.result (one-on _ c.args.event.site c.args.seats.now c.index-seats-at.result c.take_for-took.new.seat c.requires.at) c.take_for-took.ensures.got

pub returns-clause-no : goal.returns-clause-no
returns-clause-no g c =
    on_no c.take_for-took.result (one-on _ c.args.event.site c.args.seats.now c.index-seats-at.result c.take_for-took.new.seat c.requires.at) c.take_for-took.ensures.no

pub bounds-seats-at-2 : goal.bounds-seats-at-2
bounds-seats-at-2 g c = grind (arith, common_steps)
