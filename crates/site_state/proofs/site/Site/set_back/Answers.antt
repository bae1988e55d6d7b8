use Rattle.std.proofs.Common.{◌≤◌, ◌+◌, refl, sym, subst, arith}
use Rattle.stamp_history.specs.Histories.{IsAboveLast}
use Rattle.site_state.specs.Standings.{Standing}
use Rattle.site_state.proofs.Forced.{stands_at}
use Rattle.site_state.proofs.site.Site.set_back.Goals as goal

pub invariant_of-self : goal.invariant_of-self
invariant_of-self c =
    let h = c.self.invariant.0 in
    let at = c.at-self-inside.ensures in
    let clock = h.clock in
    let earlier = subst (λ (s : Standing). c.args.stamp ≤ s.clock) (sym c.self.view_is) c.requires.earlier in
    let last = subst (λ (s : Standing). IsAboveLast s.history.events (c.args.stamp + 1)) (sym c.self.view_is) c.requires.last in
    (stands_at _ c.at-self-inside.result h (omega arith) (rw c.at-self-inside.ensures last), c.self.invariant.1)

pub returns : goal.returns
returns c = rw (← c.self.view_is, c.at-self-inside.ensures) refl
