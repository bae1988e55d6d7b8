use Rattle.std.proofs.Common.{◌≡◌, drop}
use Rattle.np_scope.specs.Resolved.{exprs_of}
use Rattle.np_scope.proofs.Forms.{after_exprs}
use Rattle.np_scope.proofs.resolver.Resolver.+expr.Given as goal

abbrev pub invariant-exprs-loop-part : goal.invariant-exprs-loop-part
invariant-exprs-loop-part l = exprs_of l.self.sites l.parts l.scope ≡ after_exprs l.resolved (exprs_of l.self.sites (drop l.part-index l.parts) l.scope)
