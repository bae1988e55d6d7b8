use Rattle.std.proofs.Common.{◌≡◌, ◌≤◌, length, subst, arith}
use Rattle.std.specs.FinMap as map
use Rattle.np_configuration.proofs.Common.{Idle, the_view}
use Rattle.np_configuration.proofs.RestTests.{no_keys, rests}
use Rattle.np_configuration.proofs.cfg.Cfg.next.Goals as goal

pub returns-in_err-ready-clause-none : goal.returns-in_err-ready-clause-none
returns-in_err-ready-clause-none c =
    let few : length c.self.inside.packets.keys ≤ 0 = omega (arith, c.len.ensures.len, c.if-len-gt0.false) in
    let none : c.self.inside.packets.items ≡ map.empty = no_keys c.self.inside.packets.items c.self.inside.packets.keys c.len.ensures.covers few in
    rw c.from_residual.ensures
    (subst Idle c.self.view_is (rests (the_view c.self.inside) c.self.inside.work c.self.invariant c.in_err-ready.ensures.none none c.in_default.ensures.none))
