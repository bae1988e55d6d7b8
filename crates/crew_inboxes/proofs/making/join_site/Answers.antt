use Rattle.std.proofs.Common.{◌≡◌, ◌<◌, List, length, refl, sym, subst, arith}
use Rattle.std.proofs.lemmas.Option.{slice_get_read}
use Rattle.agent_move.specs.declared.item.Item.{Item}
use Rattle.site_inboxes.specs.declared.ends.Outlet.{Outlet}
use Rattle.crew_inboxes.specs.Seats.{Row}
use Rattle.crew_inboxes.proofs.Weaving.{row_none, row_more, woven_more}
use Rattle.crew_inboxes.proofs.making.join_site.Goals as goal

pub add_way-requires : goal.add_way-requires
add_way-requires c =
    let l = c.loop-i in let xs = l.seats.items in let x = c.index_mut.result.now in
    let lt : l.i < length xs = omega (arith, l.invariant.count) in
    let u = l.invariant.high l.i x (slice_get_read xs (length xs) l.i x refl lt c.index_mut.ensures.value) (omega arith) in
    omega (arith, u.made_are, u.sites_are, c.requires.next)

pub loop-i-preserved : goal.loop-i-preserved
loop-i-preserved c =
    let l = c.loop-i in let xs = l.seats.items in let x = c.index_mut.result.now in
    let lt : l.i < length xs = omega (arith, l.invariant.count) in
    row_more c.args.sites c.args.site l.i c.args.seats.now.items xs l.ways.items _ x _ l.invariant (slice_get_read xs (length xs) l.i x refl lt c.index_mut.ensures.value) c.in_ok-add_way.ensures

pub loop-i-init : goal.loop-i-init
loop-i-init c =
    subst (λ (l : List (Outlet Item)). Row c.args.sites c.args.site 0 c.args.seats.now.items c.args.seats.now.items l) (sym c.new-ways.ensures.items)
    (row_none c.args.sites c.args.site c.args.seats.now.items c.requires.woven)

pub returns : goal.returns
returns c =
    let l = c.loop-i in let xs = l.seats.items in let k = c.args.site in let x = c.index_mut-2.result.now in
    let full : l.i ≡ c.args.sites = omega arith in
    let lt : k < length xs = omega (arith, l.invariant.count, c.requires.next) in
    woven_more c.args.sites k l.i c.args.seats.now.items xs l.ways.items x _ c.requires.woven l.invariant full c.requires.next (slice_get_read xs (length xs) k x refl lt c.index_mut-2.ensures.value) refl refl
