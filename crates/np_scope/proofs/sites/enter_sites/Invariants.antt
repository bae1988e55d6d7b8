use Rattle.std.proofs.Common.{◌≡◌, drop}
use Rattle.np_scope.specs.Resolved.{with_sites}
use Rattle.np_scope.proofs.sites.enter_sites.Given as goal

abbrev pub invariant-loop-site : goal.invariant-loop-site
invariant-loop-site l = (with_sites l.sites 0 l.initial.scope ≡ with_sites (drop l.site-index l.sites) l.count l.scope) × (l.count ≡ l.site-index)
