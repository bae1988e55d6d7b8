-- Only a value and a variable name a channel.
use Rattle.std.proofs.Common.{◌≡◌, ℕ, ℤ, Bool, List, Option, None, Some, refl, ap, ◌∙◌}
use Rattle.std.specs.FinMap as table
use Rattle.np_eval.proofs.Common.{Name, Value, Value-F, out-Value, outs-Int, outs-Truth, outs-Letter, outs-Places, Op, Expr, ExprForm, ◌>>=◌, Env, ValueLayer}
use Rattle.np_eval.proofs.Common.{as_chan, as_agent, as_places, operate_at, equal_at, eval, eval_all, eval_form}
use Rattle.np_syntax.specs.declared.value.Value as value
use Rattle.np_syntax.specs.declared.value.Value.TheVariants.{outs-Tuple}
use Rattle.np_syntax.specs.declared.expression.Op.TheVariants as op
use Rattle.np_syntax.specs.declared.expression.ExprForm as expr
use Rattle.np_eval.proofs.Evals.{eval-val, eval-var, eval-tuple, eval-bin, eval-pack, eval-with}

abbrev chan_in : Option Value → Option Name
chan_in o = o >>= λ v. as_chan (out-Value v)

abbrev pub chan_form : ExprForm → Env → Option Name
chan_form f env = chan_in (eval_form f env)

pub chan-val : (v : Value) (env : Env) → chan_form (expr.Val v) env ≡ as_chan (out-Value v)
chan-val v env = ap chan_in (eval-val v env)

pub chan-var : (x : ℕ) (env : Env) → chan_form (expr.Var x) env ≡ (table.get env x >>= λ v. as_chan (out-Value v))
chan-var x env = ap chan_in (eval-var x env)

-- what is made of values in two or three steps names no channel where the last step never gives one
none_then : {A : Type 0} (o : Option A) (f : A → Option Value) → ((a : A) → chan_in (f a) ≡ None) → chan_in (o >>= f) ≡ None
none_then None f h = refl
none_then (Some a) f h = h a

pub chan-tuple : (es : List Expr) (env : Env) → chan_form (expr.Tuple es) env ≡ None
chan-tuple es env = ap chan_in (eval-tuple es env) ∙ none_then (eval_all es env) _ (λ vs. ap as_chan (outs-Tuple vs))

no_number : (i : ℤ) → chan_in (Some (value.Int i)) ≡ None
no_number i = ap as_chan (outs-Int i)

no_truth : (b : Bool) → chan_in (Some (value.Truth b)) ≡ None
no_truth b = ap as_chan (outs-Truth b)

chan-operate : (o : Op) (x y : ValueLayer) → chan_in (operate_at o x y) ≡ None
chan-operate op.Add (Value-F.Int x) (Value-F.Int y) = no_number _
chan-operate op.Sub (Value-F.Int x) (Value-F.Int y) = no_number _
chan-operate op.Mul (Value-F.Int x) (Value-F.Int y) = no_number _
chan-operate op.Less (Value-F.Int x) (Value-F.Int y) = no_truth _
chan-operate op.Equal x y = none_then (equal_at x y) _ no_truth
chan-operate _ _ _ = refl

pub chan-bin : (o : Op) (a b : Expr) (env : Env) → chan_form (expr.Bin o a b) env ≡ None
chan-bin o a b env = ap chan_in (eval-bin o a b env) ∙ none_then (eval a env) _ (λ x. none_then (eval b env) _ (λ y. chan-operate o (out-Value x) (out-Value y)))

pub chan-pack : (c e : Expr) (env : Env) → chan_form (expr.Pack c e) env ≡ None
chan-pack c e env =
    ap chan_in (eval-pack c e env) ∙ none_then (eval c env) _ (λ x. none_then (eval e env) _ (λ v. none_then (as_chan (out-Value x)) _ (λ n. ap as_chan (outs-Letter n v))))

pub chan-with : (m a l : Expr) (env : Env) → chan_form (expr.With m a l) env ≡ None
chan-with m a l env =
    ap chan_in (eval-with m a l env) ∙ none_then (eval m env) _ (λ x. none_then (eval a env) _ (λ y. none_then (eval l env) _ (λ z.
    none_then (as_places (out-Value x)) _ (λ ps. none_then (as_agent (out-Value y)) _ (λ b. none_then (as_chan (out-Value z)) _ (λ n. ap as_chan (outs-Places _)))))))

pub ruleset chans = (chan-val, chan-var, chan-tuple, chan-bin, chan-pack, chan-with)
