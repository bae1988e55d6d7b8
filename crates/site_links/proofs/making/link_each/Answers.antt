use Rattle.std.proofs.lemmas.Grind.{common_steps}
use Rattle.std.proofs.Common.{◌<◌, length, arith, refl}
use Rattle.std.proofs.lemmas.Option.{slice_get_read}
use Rattle.site_links.proofs.Ties.{partly_more}
use Rattle.site_links.proofs.making.link_each.Goals as goal

pub loop-i-preserved : goal.loop-i-preserved
loop-i-preserved g c =
    let lt : c.loop-i.i < length c.loop-i.ports.items = omega (arith, c.len-i-end.ensures, c.args.ports.now.ok.0, c.loop-i.invariant.count) in
    partly_more g.E.Ends c.loop-i.i c.loop-i.invariant (slice_get_read c.loop-i.ports.items (length c.loop-i.ports.items) c.loop-i.i c.index_mut.result.now refl lt c.index_mut.ensures.value) c.in_ok-link_two.ensures

pub returns : goal.returns
returns g c = grind (arith, common_steps)
