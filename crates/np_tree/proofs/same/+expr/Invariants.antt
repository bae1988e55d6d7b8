use Rattle.std.proofs.Common.{◌≡◌, ℕ, ◌<◌, length, get_or}
use Rattle.np_tree.specs.declared.tree.RawExpr.{RawExpr}
use Rattle.np_tree.specs.Erased.{erased_expr}
use Rattle.np_tree.proofs.same.+expr.Given as goal

abbrev pub invariant-same_exprs-loop-at : goal.invariant-same_exprs-loop-at
invariant-same_exprs-loop-at l = (length l.a ≡ length l.b) × ((k : ℕ) (d : RawExpr) → k < l.at → erased_expr (get_or l.a k d) ≡ erased_expr (get_or l.b k d))
