use Rattle.std.proofs.Common.{◌≡◌, Some, get_or}
use borrow.Author.Rules.{scaled_Fits}
use Rattle.std.specs.Prelude.{slice_get}
use Rattle.std.proofs.lemmas.Option.{slice_get-get_or}
use Rattle.site_crew.proofs.Replacing.{late_caught, rests_caught, same_caught, stand_caught}
use Rattle.site_crew.proofs.catching.catch_at.Goals as goal

pub offset_bounds-seats-at : goal.offset_bounds-seats-at
offset_bounds-seats-at g c = scaled_Fits _ _ _ c.requires.at (search (c.well_formed))

pub returns-clause-stand : goal.returns-clause-stand
returns-clause-stand g c =
    let xs = c.args.seats.now in let i = c.args.at in let a = get_or xs i c.index-seats-at.result in
    let at : slice_get xs i ≡ Some a = slice_get-get_or xs i c.index-seats-at.result c.requires.at in
    rw c.catch_up.ensures (stand_caught xs i c.args.stamp a at c.requires.stand c.requires.early)

pub returns-clause-rest : goal.returns-clause-rest
returns-clause-rest g c =
    let xs = c.args.seats.now in let i = c.args.at in let a = get_or xs i c.index-seats-at.result in
    let at : slice_get xs i ≡ Some a = slice_get-get_or xs i c.index-seats-at.result c.requires.at in
    rw c.catch_up.ensures (rests_caught xs i c.args.stamp a at c.requires.stand)

pub returns-clause-there : goal.returns-clause-there
returns-clause-there g c =
    let xs = c.args.seats.now in let i = c.args.at in let a = get_or xs i c.index-seats-at.result in
    let at : slice_get xs i ≡ Some a = slice_get-get_or xs i c.index-seats-at.result c.requires.at in
    rw c.catch_up.ensures (late_caught xs i c.args.stamp a at c.requires.stand)

pub returns-clause-same : goal.returns-clause-same
returns-clause-same g c =
    let xs = c.args.seats.now in let i = c.args.at in let a = get_or xs i c.index-seats-at.result in
    let at : slice_get xs i ≡ Some a = slice_get-get_or xs i c.index-seats-at.result c.requires.at in
    rw c.catch_up.ensures (same_caught xs i c.args.stamp a at c.requires.stand)
