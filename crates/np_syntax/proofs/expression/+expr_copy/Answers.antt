use Rattle.std.proofs.Common.{arith}
use Rattle.std.proofs.lemmas.Grind.{common_steps}
use Rattle.np_syntax.proofs.expression.+expr_copy.Goals as goal

pub ExprForm::copy-returns-in_ok-right-in-Bin : goal.ExprForm::copy-returns-in_ok-right-in-Bin
ExprForm::copy-returns-in_ok-right-in-Bin t c = grind (arith, common_steps)

pub ExprForm::copy-returns-in_ok-copy_exprs-in-Tuple : goal.ExprForm::copy-returns-in_ok-copy_exprs-in-Tuple
ExprForm::copy-returns-in_ok-copy_exprs-in-Tuple t c = grind (arith, common_steps)

pub copy_exprs-loop-expr-preserved : goal.copy_exprs-loop-expr-preserved
copy_exprs-loop-expr-preserved t c = grind (arith, common_steps)

pub ExprForm::copy-returns-in_ok-copy-in-Val : goal.ExprForm::copy-returns-in_ok-copy-in-Val
ExprForm::copy-returns-in_ok-copy-in-Val t c = grind (arith, common_steps)

pub ExprForm::copy-returns-in-Var : goal.ExprForm::copy-returns-in-Var
ExprForm::copy-returns-in-Var t c = grind (arith, common_steps)

pub ExprForm::copy-returns-in_ok-lock-in-With : goal.ExprForm::copy-returns-in_ok-lock-in-With
ExprForm::copy-returns-in_ok-lock-in-With t c = grind (arith, common_steps)

pub ExprForm::copy-returns-in_ok-value-in-Pack : goal.ExprForm::copy-returns-in_ok-value-in-Pack
ExprForm::copy-returns-in_ok-value-in-Pack t c = grind (arith, common_steps)
