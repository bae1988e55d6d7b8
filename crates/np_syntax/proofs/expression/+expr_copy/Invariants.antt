use Rattle.std.proofs.Common.{◌≡◌, take}
use Rattle.np_syntax.proofs.expression.+expr_copy.Given as goal

abbrev pub invariant-copy_exprs-loop-expr : goal.invariant-copy_exprs-loop-expr
invariant-copy_exprs-loop-expr l = l.copies ≡ take l.expr-index l.exprs
