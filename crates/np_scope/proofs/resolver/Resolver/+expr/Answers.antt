use Rattle.std.proofs.Common.{arith}
use Rattle.std.proofs.lemmas.Grind.{common_steps}
use Rattle.np_scope.proofs.resolver.Resolver.+expr.Goals as goal

pub exprs-loop-part-preserved : goal.exprs-loop-part-preserved
exprs-loop-part-preserved t c = grind (arith, common_steps)

pub exprs-returns-in_err-expr : goal.exprs-returns-in_err-expr
exprs-returns-in_err-expr t c = grind (arith, common_steps)
