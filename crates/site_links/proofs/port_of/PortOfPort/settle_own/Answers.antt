use Rattle.std.proofs.Common.{length, refl, [], arith}
use Rattle.std.proofs.lemmas.Option.{slice_get_read}
use Rattle.site_links.proofs.Changed.{Changes, keeps_but, still_linked, same_everywhere, same_elsewhere, read_new, out_within, ends_meet}
use Rattle.site_links.proofs.port_of.PortOfPort.settle_own.Goals as goal

pub index_mut-requires : goal.index_mut-requires
index_mut-requires g c = let h = out_within g.E.Ends c.requires in let long = c.args.self.now.ends.ok.0 in omega arith

pub settle_own-requires : goal.settle_own-requires
settle_own-requires g c =
    let xs = c.args.self.now.ends.items in let x = c.index_mut.result.now in
    let was = slice_get_read xs (length xs) c.args.self.now.site x refl (out_within g.E.Ends c.requires) c.index_mut.ensures.value in
    ends_meet g.E.Ends c.requires x x was was

pub returns : goal.returns
returns g c =
    let e = g.E.Ends in
    let xs = c.args.self.now.ends.items in let i = c.args.self.now.site in let x = c.index_mut.result.now in let y = c.settle_own.new.self in
    let h : Changes c.args.self.now _ i x y = record { site_same = refl; ends = refl; was = slice_get_read xs (length xs) i x refl (out_within e c.requires) c.index_mut.ensures.value } in
    let s = c.settle_own.ensures in
    record {
      keeps = keeps_but e _ _ i x y h;
      own = still_linked e c.args.self.now c.args.self.now _ _ x x y y h h s.stays;
      same = λ n. (same_everywhere e _ _ i x y h e.sent [] s.same.0 n, same_everywhere e _ _ i x y h e.got [] s.same.1 n);
      others = λ n m. (same_elsewhere e _ _ i x y h e.known [] n m, same_elsewhere e _ _ i x y h e.room 0 n m);
      settled = rw (read_new e _ _ i x y h e.got [], read_new e _ _ i x y h e.known [], read_new e _ _ i x y h e.sent []) s.settled;
      free = rw (read_new e _ _ i x y h e.room 0, read_new e _ _ i x y h e.known []) s.free;
      waiting = rw (read_new e _ _ i x y h e.known []) s.waiting;
    }
