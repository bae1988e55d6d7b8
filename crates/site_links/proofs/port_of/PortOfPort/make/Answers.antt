use Rattle.std.proofs.lemmas.Grind.{common_steps}
use Rattle.std.proofs.Common.{◌≡◌, arith}
use Rattle.site_links.proofs.Ties.{full_from_made, unused_fresh, made_as}
use Rattle.site_links.proofs.port_of.PortOfPort.make.Goals as goal

pub returns : goal.returns
returns g c =
    let e : c.loop-number.number ≡ c.args.sites = omega arith in
    let m = made_as g.E.Ends c.args.sites c.loop-number.ports.items c.loop-number.invariant e in
    record { ports = full_from_made g.E.Ends m; unused = λ i p h. unused_fresh g.E.Ends p c.args.sites (m.fresh i p h) (m.shape i p h).1 }

pub loop-number-init : goal.loop-number-init
loop-number-init g c = grind (arith, common_steps)
