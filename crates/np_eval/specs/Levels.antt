-- The value of an expression and the environment of a pattern, for forms and for lists, over which code goes.
use Rattle.std.specs.Prelude.{Option, None, Some, List, [], ◌∷◌}
use Rattle.np_syntax.specs.declared.value.Value.{Value}
use Rattle.np_syntax.specs.declared.expression.Expr.{Expr}
use Rattle.np_syntax.specs.declared.expression.ExprForm.{ExprForm, fold-ExprForm}
use Rattle.np_syntax.specs.declared.pattern.Pat.{Pat}
use Rattle.np_syntax.specs.declared.pattern.PatForm.{PatForm, fold-PatForm}
use Rattle.np_syntax.specs.Options.{◌>>=◌}
use Rattle.np_eval.specs.Eval.{Binding, Env, bind, bind_step, eval, eval_step}

unfoldable pub eval_form : ExprForm → Env → Option Value
eval_form f env = fold-ExprForm (Option Value) (Option Value) (eval_step env) (λ e. e.form) f

abbrev pub eval_all : List Expr → Env → Option (List Value)
eval_all [] env = Some []
eval_all (e ∷ es) env = do
  v ← eval e env
  vs ← eval_all es env
  Some (v ∷ vs)

unfoldable pub bind_form : PatForm → Value → Env → Option Env
bind_form = fold-PatForm Binding Binding bind_step (λ p. p.form)

abbrev pub bind_all : List Pat → List Value → Env → Option Env
bind_all [] [] env = Some env
bind_all [] (v ∷ vs) env = None
bind_all (p ∷ ps) [] env = None
bind_all (p ∷ ps) (v ∷ vs) env = bind p v env >>= bind_all ps vs
