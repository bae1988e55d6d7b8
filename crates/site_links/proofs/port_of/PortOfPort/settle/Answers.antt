use Rattle.std.proofs.Common.{length, refl, [], arith}
use Rattle.std.proofs.lemmas.Option.{slice_get_read}
use Rattle.site_links.proofs.Changed.{Changes, keeps_but, still_linked, same_everywhere, same_elsewhere, read_new, out_within, in_within, ends_meet}
use Rattle.site_links.proofs.port_of.PortOfPort.settle.Goals as goal

pub index_mut-out-requires : goal.index_mut-out-requires
index_mut-out-requires g c = let h = out_within g.E.Ends c.requires in let long = c.args.self.now.ends.ok.0 in omega arith

pub index_mut-requires : goal.index_mut-requires
index_mut-requires g c = let h = in_within g.E.Ends c.requires in let long = c.args.to.now.ends.ok.0 in omega arith

pub settle-requires : goal.settle-requires
settle-requires g c =
    let xs = c.args.self.now.ends.items in let x = c.index_mut-out.result.now in let zs = c.args.to.now.ends.items in let z = c.index_mut.result.now in
    ends_meet g.E.Ends c.requires x z (slice_get_read xs (length xs) c.args.to.now.site x refl (out_within g.E.Ends c.requires) c.index_mut-out.ensures.value)
    (slice_get_read zs (length zs) c.args.self.now.site z refl (in_within g.E.Ends c.requires) c.index_mut.ensures.value)

pub returns : goal.returns
returns g c =
    let e = g.E.Ends in
    let xs = c.args.self.now.ends.items in let i = c.args.to.now.site in let x = c.index_mut-out.result.now in let y = c.settle.new.self in
    let zs = c.args.to.now.ends.items in let j = c.args.self.now.site in let z = c.index_mut.result.now in let w = c.settle.new.to in
    let h : Changes c.args.self.now _ i x y = record { site_same = refl; ends = refl; was = slice_get_read xs (length xs) i x refl (out_within e c.requires) c.index_mut-out.ensures.value } in
    let k : Changes c.args.to.now _ j z w = record { site_same = refl; ends = refl; was = slice_get_read zs (length zs) j z refl (in_within e c.requires) c.index_mut.ensures.value } in
    let s = c.settle.ensures in
    record {
      keeps = (keeps_but e _ _ i x y h, keeps_but e _ _ j z w k);
      between = (still_linked e c.args.self.now c.args.to.now _ _ x z y w h k s.stays.0, still_linked e c.args.to.now c.args.self.now _ _ z x w y k h s.stays.1);
      sent = λ n. (same_everywhere e _ _ i x y h e.sent [] s.from.0 n, same_everywhere e _ _ j z w k e.sent [] s.to.0 n);
      got = λ n. (same_everywhere e _ _ i x y h e.got [] s.from.1 n, same_everywhere e _ _ j z w k e.got [] s.to.1 n);
      known = λ n. (same_everywhere e _ _ i x y h e.known [] s.from.2 n, same_elsewhere e _ _ j z w k e.known [] n);
      room = λ n. (same_elsewhere e _ _ i x y h e.room 0 n, same_everywhere e _ _ j z w k e.room 0 s.to.2 n);
      settled = rw (read_new e _ _ j z w k e.got [], read_new e _ _ j z w k e.known [], read_new e _ _ i x y h e.sent []) s.settled;
      free = rw (read_new e _ _ i x y h e.room 0, read_new e _ _ j z w k e.known []) s.free;
      waiting = rw (read_new e _ _ j z w k e.known []) s.waiting;
    }
