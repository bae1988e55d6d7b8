-- Expressions and patterns, a layer at a time.
use Rattle.std.proofs.Common.{◌≡◌, Option, ◌∙◌}
use Rattle.np_eval.proofs.Common.{Value, Expr, fold_out-Expr, ExprForm, ExprForm-F, out-ExprForm, map-ExprForm, fold_out-ExprForm, Pat, fold_out-Pat, PatForm}
use Rattle.np_eval.proofs.Common.{PatForm-F, out-PatForm, map-PatForm, fold_out-PatForm, Env, Binding, bind_step, eval_step, eval, bind, eval_form, bind_form}

-- the values of a layer's parts
abbrev pub eval_layer : Env → ExprForm-F ExprForm Expr → ExprForm-F (Option Value) (Option Value)
eval_layer env y = map-ExprForm ExprForm Expr (Option Value) (Option Value) (λ f. eval_form f env) (λ e. eval e env) y

pub eval-out : (env : Env) (e : Expr) → eval e env ≡ eval_step env (eval_layer env (out-ExprForm e.form))
unfolding eval eval_form
eval-out env e =
    fold_out-Expr (Option Value) (Option Value) (eval_step env) (λ e. e.form) e
    ∙ fold_out-ExprForm (Option Value) (Option Value) (eval_step env) (λ e. e.form) e.form

abbrev pub bind_layer : PatForm-F PatForm Pat → PatForm-F Binding Binding
bind_layer y = map-PatForm PatForm Pat Binding Binding bind_form bind y

pub bind-out : (p : Pat) → bind p ≡ bind_step (bind_layer (out-PatForm p.form))
unfolding bind bind_form
bind-out p = fold_out-Pat Binding Binding bind_step (λ p. p.form) p ∙ fold_out-PatForm Binding Binding bind_step (λ p. p.form) p.form
