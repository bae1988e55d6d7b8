use Rattle.std.proofs.Common.{arith, ◌∙◌, length, refl, []}
use Rattle.std.proofs.lemmas.Option.{slice_get_read}
use Rattle.std.proofs.lemmas.Result.{on_ok_weaker, IfErr-weaker}
use Rattle.site_links.proofs.Changed.{Changes, keeps_changed, same_everywhere, read_old, more_at, less_at}
use Rattle.site_links.proofs.port_of.PortOfPort.put.Goals as goal

pub returns : goal.returns
returns g c =
    let e = g.E.Ends in let xs = c.args.self.now.ends.items in let i = c.args.to in let x = c.index_mut.result.now in let y = c.put.new.self in
    let was = slice_get_read xs (length xs) i x refl c.requires.site c.index_mut.ensures.value in
    let h : Changes c.args.self.now _ i x y = record { site_same = refl; ends = refl; was = was } in
    let put = c.put.ensures in
    record {
      keeps = keeps_changed e _ _ i x y h put.stays;
      taking = λ k. (same_everywhere e _ _ i x y h e.got [] put.taking.0 k, same_everywhere e _ _ i x y h e.known [] put.taking.1 k);
      room = less_at e _ _ i x y h e.room c.args.item (omega (arith, put.room));
      ok = on_ok_weaker c.put.result (λ f. more_at e _ _ i x y h e.sent c.args.item f) put.ok;
      err = IfErr-weaker c.put.result _ _ (λ back f. (
        f.0,
        read_old e _ _ i x y h e.room 0 ∙ f.2,
        λ k. (same_everywhere e _ _ i x y h e.sent [] f.1 k, same_everywhere e _ _ i x y h e.room 0 (omega (arith, put.room, f.2)) k),
      )) put.err;
    }
