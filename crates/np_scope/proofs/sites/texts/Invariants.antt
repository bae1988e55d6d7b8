use Rattle.std.proofs.Common.{◌≡◌, ◌++◌, drop, map}
use Rattle.np_scope.proofs.sites.texts.Given as goal

abbrev pub invariant-loop-site : goal.invariant-loop-site
invariant-loop-site l = map (λ site. site.text) l.sites ≡ l.names ++ map (λ site. site.text) (drop l.site-index l.sites)
