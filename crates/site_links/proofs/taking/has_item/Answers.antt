use Rattle.std.proofs.Common.{length, refl}
use Rattle.std.proofs.lemmas.Bool.{not-false}
use Rattle.std.proofs.lemmas.Option.{slice_get_read}
use Rattle.site_links.proofs.Changed.{Changes}
use Rattle.site_links.proofs.Looks.{looked_at, looked_past, there_is}
use Rattle.site_links.proofs.taking.has_item.Goals as goal

pub returns-clause-yes : goal.returns-clause-yes
returns-clause-yes g c full =
    let xs = c.args.port.now.ends.items in let i = c.args.from in let x = c.index_mut.result.now in
    let h : Changes c.args.port.now _ i x c.is_empty.new.self = record { site_same = refl; ends = refl; was = slice_get_read xs (length xs) i x refl c.requires c.index_mut.ensures.value } in
    let e = c.is_empty.ensures in
    (looked_at g.E.Ends _ _ i x _ h e.stays e.putting e.taking, there_is g.E.Ends _ _ i x _ h e.empty full)

pub returns-clause-no : goal.returns-clause-no
returns-clause-no g c none =
    let xs = c.args.port.now.ends.items in let i = c.args.from in let x = c.index_mut.result.now in
    let h : Changes c.args.port.now _ i x c.is_empty.new.self = record { site_same = refl; ends = refl; was = slice_get_read xs (length xs) i x refl c.requires c.index_mut.ensures.value } in
    let e = c.is_empty.ensures in
    looked_past g.E.Ends _ _ i x _ h e.stays e.putting e.taking (e.empty.0 (not-false c.is_empty.result none))
