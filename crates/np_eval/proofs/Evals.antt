-- The value of each form of expression.
use Rattle.std.proofs.Common.{◌≡◌, ℕ, List, [], ◌∷◌, ◌++◌, map, Option, None, Some, refl, ap, ◌∙◌}
use Rattle.std.specs.FinMap as table
use Rattle.np_eval.proofs.Common.{Value, Op, Expr, fold_out-Expr, ExprForm, ExprForm-F, out-ExprForm, map-ExprForm, fold_out-ExprForm, ◌>>=◌, Env, eval_step}
use Rattle.np_eval.proofs.Common.{eval, eval_all, eval_form}
use Rattle.np_syntax.specs.declared.value.Value as value
use Rattle.np_syntax.specs.declared.expression.ExprForm as expr
use Rattle.np_syntax.specs.declared.expression.ExprForm.TheVariants.{outs-Val, outs-Var, outs-Tuple, outs-Bin, outs-Pack, outs-With}
use Rattle.np_syntax.specs.Options.{all_some}
use Rattle.np_eval.specs.Eval.{operate, pack, with_place}

pub eval-form : (e : Expr) (env : Env) → eval e env ≡ eval_form e.form env
unfolding eval eval_form
eval-form e env = fold_out-Expr (Option Value) (Option Value) (eval_step env) (λ e. e.form) e

abbrev stepped : Env → ExprForm-F ExprForm Expr → Option Value
stepped env l = eval_step env (map-ExprForm ExprForm Expr (Option Value) (Option Value) (λ f. eval_form f env) (λ e. eval e env) l)

eval-out : (f : ExprForm) (env : Env) → eval_form f env ≡ stepped env (out-ExprForm f)
unfolding eval eval_form
eval-out f env = fold_out-ExprForm (Option Value) (Option Value) (eval_step env) (λ e. e.form) f

pub eval-val : (v : Value) (env : Env) → eval_form (expr.Val v) env ≡ Some v
eval-val v env = eval-out (expr.Val v) env ∙ ap (stepped env) (outs-Val v)

pub eval-var : (x : ℕ) (env : Env) → eval_form (expr.Var x) env ≡ table.get env x
eval-var x env = eval-out (expr.Var x) env ∙ ap (stepped env) (outs-Var x)

pub eval-bin : (o : Op) (a b : Expr) (env : Env) → eval_form (expr.Bin o a b) env ≡ (eval a env >>= λ x. eval b env >>= λ y. operate o x y)
eval-bin o a b env = eval-out (expr.Bin o a b) env ∙ ap (stepped env) (outs-Bin o a b)

all_some-map : (es : List Expr) (env : Env) → all_some (map (λ e. eval e env) es) ≡ eval_all es env
all_some-map [] env = refl
all_some-map (e ∷ es) env = ap (λ o. eval e env >>= λ v. o >>= λ vs. Some (v ∷ vs)) (all_some-map es env)

pub eval-tuple : (es : List Expr) (env : Env) → eval_form (expr.Tuple es) env ≡ (eval_all es env >>= λ vs. Some (value.Tuple vs))
eval-tuple es env = eval-out (expr.Tuple es) env ∙ ap (stepped env) (outs-Tuple es) ∙ ap (λ o. o >>= λ vs. Some (value.Tuple vs)) (all_some-map es env)

pub eval-pack : (c e : Expr) (env : Env) → eval_form (expr.Pack c e) env ≡ (eval c env >>= λ x. eval e env >>= λ y. pack x y)
eval-pack c e env = eval-out (expr.Pack c e) env ∙ ap (stepped env) (outs-Pack c e)

pub eval-with : (m a l : Expr) (env : Env) → eval_form (expr.With m a l) env ≡ (eval m env >>= λ x. eval a env >>= λ y. eval l env >>= λ z. with_place x y z)
eval-with m a l env = eval-out (expr.With m a l) env ∙ ap (stepped env) (outs-With m a l)

-- the values so far, and then those of the rest
abbrev pub after_values : List Value → Option (List Value) → Option (List Value)
after_values vs None = None
after_values vs (Some rest) = Some (vs ++ rest)

pub ruleset evals = (eval-form, eval-val, eval-var, eval-bin, eval-tuple, eval-pack, eval-with)
