use Rattle.std.proofs.Common.{length, refl}
use Rattle.std.proofs.lemmas.Option.{slice_get_read}
use Rattle.site_links.proofs.Looks.{take_changed}
use Rattle.site_links.proofs.taking.take_at.Goals as goal

pub returns : goal.returns
returns g c =
    let xs = c.args.port.now.ends.items in let i = c.args.from in let x = c.index_mut.result.now in
    let was = slice_get_read xs (length xs) i x refl c.requires c.index_mut.ensures.value in
    let e = c.take.ensures in
    take_changed g.E.Ends _ _ i x c.take.new.self c.take.result (record { site_same = refl; ends = refl; was = was }) e.stays e.putting e.taken
