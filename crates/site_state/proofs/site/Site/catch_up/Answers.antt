use Rattle.std.proofs.Common.{refl, arith}
use Rattle.site_state.proofs.Forced.{stands_later}
use Rattle.site_state.proofs.site.Site.catch_up.Goals as goal

pub invariant_of-self : goal.invariant_of-self
invariant_of-self c =
    let h = c.self.invariant.0 in
    let raised = c.raise.ensures in
    (stands_later _ c.raise.new.self h (omega arith) (omega arith), c.self.invariant.1)

pub returns : goal.returns
returns c = rw (← c.self.view_is, c.raise.ensures) refl
