use Rattle.std.proofs.Common.{◌≡◌, ◌≢◌, ◌<◌, get_or, sym, arith, Some}
use borrow.Author.Rules.{scaled_Fits}
use Rattle.std.specs.Prelude.{slice_get}
use Rattle.std.proofs.lemmas.Option.{slice_get-get_or}
use Rattle.site_crew.proofs.Pairs.{pair_of_own, pair_of_two, read_back, read_front, seam, settles, settles_own, two_sets, two_swap, with_port}
use Rattle.site_links.proofs.Rows.{get-set_same}
use Rattle.site_crew.proofs.Clearing.{free_of}
use Rattle.site_crew.proofs.settling.settle_pair.Goals as goal

pub offset_bounds-left-to : goal.offset_bounds-left-to
offset_bounds-left-to g c = scaled_Fits _ _ _ c.requires.places.1 (search (c.well_formed))

pub offset_bounds-left-from : goal.offset_bounds-left-from
offset_bounds-left-from g c = scaled_Fits _ _ _ c.requires.places.0 (search (c.well_formed))

pub offset_bounds-seats-from : goal.offset_bounds-seats-from
offset_bounds-seats-from g c = scaled_Fits _ _ _ c.requires.places.0 (search (c.well_formed))

pub settle_own-requires : goal.settle_own-requires
settle_own-requires g c =
    let xs = c.args.seats.now in let i = c.args.from in let x = get_or xs i c.index-seats-from.result in
    let at : slice_get xs i ≡ Some x = slice_get-get_or xs i c.index-seats-from.result c.requires.places.0 in c.requires.linked.linked i i x x at at

pub returns-then-from-to-clause-settled : goal.returns-then-from-to-clause-settled
returns-then-from-to-clause-settled g c =
    let xs = c.args.seats.now in let i = c.args.from in let e = c.settle_own.ensures in let x = get_or xs i c.index-seats-from.result in
    let at : slice_get xs i ≡ Some x = slice_get-get_or xs i c.index-seats-from.result c.requires.places.0 in
    rw (sym c.if-from-to.true) (pair_of_own i xs x c.settle_own.new.self c.requires.linked at c.settle_own.result (settles_own c.requires.linked at e.keeps e.own e.same e.others e.settled e.free e.waiting))

pub settle-requires : goal.settle-requires
settle-requires g c =
    let xs = c.args.seats.now in let l = c.split_at_mut-left.result.0.now in let r = c.split_at_mut-left.result.1.now in let h = c.split_at_mut-left.ensures in
    c.requires.linked.linked c.args.from c.args.to _ _ (read_front xs l r c.args.to c.args.from c.index-left-from.result h.value h.front_len c.if-from-to-2.true)
    (read_back xs l r c.args.to c.index-right-0.result h.value h.front_len c.requires.places.1)

pub returns-then-from-to-2-clause-settled : goal.returns-then-from-to-2-clause-settled
returns-then-from-to-2-clause-settled g c =
    let xs = c.args.seats.now in let l = c.split_at_mut-left.result.0.now in let r = c.split_at_mut-left.result.1.now in let h = c.split_at_mut-left.ensures in
    let i = c.args.from in let j = c.args.to in
    let x = get_or l i c.index-left-from.result in let y = get_or r 0 c.index-right-0.result in
    let at_i = read_front xs l r j i c.index-left-from.result h.value h.front_len c.if-from-to-2.true in
    let at_j = read_back xs l r j c.index-right-0.result h.value h.front_len c.requires.places.1 in
    let ne : i ≢ j = omega arith in
    let e = c.settle.ensures in
    rw (seam xs l r j i (with_port x c.settle.new.self) (with_port y c.settle.new.to) h.value h.front_len c.if-from-to-2.true)
    (pair_of_two i j xs _ x y c.settle.new.self c.settle.new.to ne c.requires.linked at_i at_j (two_sets xs i j _ _ c.requires.places.0 c.requires.places.1 ne) c.settle.result
    (settles c.requires.linked at_i at_j e.keeps.0 e.keeps.1 e.between.0 e.between.1 e.sent e.got e.known e.room e.settled e.free e.waiting))

pub settle-requires-else-from-to-2 : goal.settle-requires-else-from-to-2
settle-requires-else-from-to-2 g c =
    let xs = c.args.seats.now in let l = c.split_at_mut-left-else-from-to-2.result.0.now in let r = c.split_at_mut-left-else-from-to-2.result.1.now in
    let h = c.split_at_mut-left-else-from-to-2.ensures in
    let lt : c.args.to < c.args.from = omega arith in
    c.requires.linked.linked c.args.from c.args.to _ _ (read_back xs l r c.args.from c.index-right-0-else-from-to-2.result h.value h.front_len c.requires.places.0)
    (read_front xs l r c.args.from c.args.to c.index-left-to.result h.value h.front_len lt)

pub returns-else-from-to-2-clause-settled : goal.returns-else-from-to-2-clause-settled
returns-else-from-to-2-clause-settled g c =
    let xs = c.args.seats.now in let l = c.split_at_mut-left-else-from-to-2.result.0.now in let r = c.split_at_mut-left-else-from-to-2.result.1.now in
    let h = c.split_at_mut-left-else-from-to-2.ensures in
    let i = c.args.from in let j = c.args.to in
    let lt : j < i = omega arith in
    let x = get_or r 0 c.index-right-0-else-from-to-2.result in let y = get_or l j c.index-left-to.result in
    let at_i = read_back xs l r i c.index-right-0-else-from-to-2.result h.value h.front_len c.requires.places.0 in
    let at_j = read_front xs l r i j c.index-left-to.result h.value h.front_len lt in
    let ne : i ≢ j = omega arith in let en : j ≢ i = omega arith in
    let e = c.settle-else-from-to-2.ensures in
    rw (seam xs l r i j (with_port y c.settle-else-from-to-2.new.to) (with_port x c.settle-else-from-to-2.new.self) h.value h.front_len lt)
    (pair_of_two i j xs _ x y c.settle-else-from-to-2.new.self c.settle-else-from-to-2.new.to ne c.requires.linked at_i at_j
    (two_swap (two_sets xs j i _ _ c.requires.places.1 c.requires.places.0 en)) c.settle-else-from-to-2.result
    (settles c.requires.linked at_i at_j e.keeps.0 e.keeps.1 e.between.0 e.between.1 e.sent e.got e.known e.room e.settled e.free e.waiting))

pub returns-then-from-to-clause-free : goal.returns-then-from-to-clause-free
returns-then-from-to-clause-free g c =
    let xs = c.args.seats.now in let i = c.args.from in let e = c.settle_own.ensures in let x = get_or xs i c.index-seats-from.result in
    let at : slice_get xs i ≡ Some x = slice_get-get_or xs i c.index-seats-from.result c.requires.places.0 in
    let now = get-set_same xs i (with_port x c.settle_own.new.self) c.requires.places.0 in
    rw (sym c.if-from-to.true) (free_of xs _ i i x x c.settle_own.new.self c.settle_own.new.self c.requires.linked at at now now e.free)

pub returns-then-from-to-2-clause-free : goal.returns-then-from-to-2-clause-free
returns-then-from-to-2-clause-free g c =
    let xs = c.args.seats.now in let l = c.split_at_mut-left.result.0.now in let r = c.split_at_mut-left.result.1.now in let h = c.split_at_mut-left.ensures in
    let i = c.args.from in let j = c.args.to in
    let x = get_or l i c.index-left-from.result in let y = get_or r 0 c.index-right-0.result in
    let at_i = read_front xs l r j i c.index-left-from.result h.value h.front_len c.if-from-to-2.true in
    let at_j = read_back xs l r j c.index-right-0.result h.value h.front_len c.requires.places.1 in
    let ne : i ≢ j = omega arith in
    let two = two_sets xs i j (with_port x c.settle.new.self) (with_port y c.settle.new.to) c.requires.places.0 c.requires.places.1 ne in
    rw (seam xs l r j i (with_port x c.settle.new.self) (with_port y c.settle.new.to) h.value h.front_len c.if-from-to-2.true)
    (free_of xs _ i j x y c.settle.new.self c.settle.new.to c.requires.linked at_i at_j two.at_i two.at_j c.settle.ensures.free)

pub returns-else-from-to-2-clause-free : goal.returns-else-from-to-2-clause-free
returns-else-from-to-2-clause-free g c =
    let xs = c.args.seats.now in let l = c.split_at_mut-left-else-from-to-2.result.0.now in let r = c.split_at_mut-left-else-from-to-2.result.1.now in
    let h = c.split_at_mut-left-else-from-to-2.ensures in
    let i = c.args.from in let j = c.args.to in
    let lt : j < i = omega arith in
    let x = get_or r 0 c.index-right-0-else-from-to-2.result in let y = get_or l j c.index-left-to.result in
    let at_i = read_back xs l r i c.index-right-0-else-from-to-2.result h.value h.front_len c.requires.places.0 in
    let at_j = read_front xs l r i j c.index-left-to.result h.value h.front_len lt in
    let en : j ≢ i = omega arith in
    let two = two_sets xs j i (with_port y c.settle-else-from-to-2.new.to) (with_port x c.settle-else-from-to-2.new.self) c.requires.places.1 c.requires.places.0 en in
    rw (seam xs l r i j (with_port y c.settle-else-from-to-2.new.to) (with_port x c.settle-else-from-to-2.new.self) h.value h.front_len lt)
    (free_of xs _ i j x y c.settle-else-from-to-2.new.self c.settle-else-from-to-2.new.to c.requires.linked at_i at_j two.at_j two.at_i c.settle-else-from-to-2.ensures.free)
