-- The form of the value of each form of expression depends on the forms of its operands' values alone.
use Rattle.std.proofs.Common.{◌≡◌, ℕ, Bool, ◌&&◌, cond, List, ◌∷◌, Option, None, Some, refl, ap, ◌∙◌}
use Rattle.np_eval.proofs.Common.{is_some, Value, Value-F, out-Value, outs-Int, outs-Truth, outs-Letter, outs-Places, Op, Expr, ◌>>=◌, Env, ValueLayer}
use Rattle.np_eval.proofs.Common.{as_chan, as_agent, as_places, operate_at, equal_at, eval, eval_all, eval_form}
use Rattle.std.specs.Option.{option_map}
use Rattle.std.specs.FinMap as table
use Rattle.np_syntax.specs.declared.value.Value as value
use Rattle.np_syntax.specs.declared.value.Value.TheVariants.{outs-Tuple}
use Rattle.np_syntax.specs.declared.expression.Op.TheVariants as op
use Rattle.np_syntax.specs.declared.expression.ExprForm as expr
use Rattle.np_eval.specs.declared.fitting.Shape.{Shape}
use Rattle.np_eval.specs.declared.fitting.Shape.TheVariants as shape
use Rattle.np_eval.specs.Eval.{put_place}
use Rattle.np_eval.specs.Fitting.{shape_at, shape_of, equal_shape, operate_shape, pack_shape, with_shape}
use Rattle.np_eval.proofs.Evals.{eval-form, eval-val, eval-var, eval-tuple, eval-bin, eval-pack, eval-with}

-- the form of a value that there may be
abbrev shape_in : Option Value → Option Shape
shape_in o = option_map shape_of o

pub shape-val : (v : Value) (env : Env) → option_map shape_of (eval_form (expr.Val v) env) ≡ Some (shape_of v)
shape-val v env = ap shape_in (eval-val v env)

pub shape-var : (x : ℕ) (env : Env) → option_map shape_of (eval_form (expr.Var x) env) ≡ option_map shape_of (table.get env x)
shape-var x env = ap shape_in (eval-var x env)

-- a step of a chain, by the form of its value
step : (o : Option Value) (f : Value → Option Value) (g : Shape → Option Shape) → ((v : Value) → shape_in (f v) ≡ g (shape_of v)) → shape_in (o >>= f) ≡ (shape_in o >>= g)
step None f g h = refl
step (Some v) f g h = h v

truth : (b : Bool) → shape_in (Some (value.Truth b)) ≡ Some shape.Truth
truth b = ap (λ l. Some (shape_at l)) (outs-Truth b)

equal : (x y : ValueLayer) → shape_in (equal_at x y >>= λ same. Some (value.Truth same)) ≡ equal_shape (shape_at x) (shape_at y)
equal (Value-F.Int x) (Value-F.Int y) = truth _
equal (Value-F.Truth x) (Value-F.Truth y) = truth _
equal (Value-F.Str x) (Value-F.Str y) = truth _
equal (Value-F.Site x) (Value-F.Site y) = truth _
equal (Value-F.Agent x) (Value-F.Agent y) = truth _
equal _ _ = refl

operate : (o : Op) (x y : ValueLayer) → shape_in (operate_at o x y) ≡ operate_shape o (shape_at x) (shape_at y)
operate op.Equal x y = equal x y
operate op.Add (Value-F.Int x) (Value-F.Int y) = ap (λ l. Some (shape_at l)) (outs-Int _)
operate op.Sub (Value-F.Int x) (Value-F.Int y) = ap (λ l. Some (shape_at l)) (outs-Int _)
operate op.Mul (Value-F.Int x) (Value-F.Int y) = ap (λ l. Some (shape_at l)) (outs-Int _)
operate op.Less (Value-F.Int x) (Value-F.Int y) = truth _
operate _ _ _ = refl

pub shape-bin : (o : Op) (a b : Expr) (env : Env)
    → option_map shape_of (eval_form (expr.Bin o a b) env) ≡ (option_map shape_of (eval a env) >>= λ x. option_map shape_of (eval b env) >>= λ y. operate_shape o x y)
shape-bin o a b env =
    ap shape_in (eval-bin o a b env)
    ∙ step (eval a env) _ (λ x. shape_in (eval b env) >>= λ y. operate_shape o x y) (λ x.
    step (eval b env) _ (λ y. operate_shape o (shape_of x) y) (λ y. operate o (out-Value x) (out-Value y)))

letter : (c : ValueLayer) (v : Value) → shape_in (as_chan c >>= λ n. Some (value.Letter n v)) ≡ pack_shape (shape_at c)
letter (Value-F.Chan n) v = ap (λ l. Some (shape_at l)) (outs-Letter n v)
letter _ v = refl

pub shape-pack : (c e : Expr) (env : Env)
    → option_map shape_of (eval_form (expr.Pack c e) env) ≡ (option_map shape_of (eval c env) >>= λ x. option_map shape_of (eval e env) >>= λ y. pack_shape x)
shape-pack c e env =
    ap shape_in (eval-pack c e env)
    ∙ step (eval c env) _ (λ x. shape_in (eval e env) >>= λ y. pack_shape x) (λ x.
    step (eval e env) _ (λ y. pack_shape (shape_of x)) (λ y. letter (out-Value x) y))

places : (m a l : ValueLayer) → shape_in (as_places m >>= λ ps. as_agent a >>= λ b. as_chan l >>= λ n. Some (value.Places (put_place ps b n))) ≡ with_shape (shape_at m) (shape_at a) (shape_at l)
places (Value-F.Places ps) (Value-F.Agent b) (Value-F.Chan n) = ap (λ l. Some (shape_at l)) (outs-Places _)
places _ _ _ = refl

pub shape-with : (m a l : Expr) (env : Env)
    → option_map shape_of (eval_form (expr.With m a l) env) ≡ (option_map shape_of (eval m env) >>= λ x. option_map shape_of (eval a env) >>= λ y. option_map shape_of (eval l env) >>= λ z. with_shape x y z)
shape-with m a l env =
    ap shape_in (eval-with m a l env)
    ∙ step (eval m env) _ (λ x. shape_in (eval a env) >>= λ y. shape_in (eval l env) >>= λ z. with_shape x y z) (λ x.
    step (eval a env) _ (λ y. shape_in (eval l env) >>= λ z. with_shape (shape_of x) y z) (λ y.
    step (eval l env) _ (λ z. with_shape (shape_of x) (shape_of y) z) (λ z. places (out-Value x) (out-Value y) (out-Value z))))

tuple : (o : Option (List Value)) → shape_in (o >>= λ vs. Some (value.Tuple vs)) ≡ cond (is_some o) (Some shape.Tuple) None
tuple None = refl
tuple (Some vs) = ap (λ l. Some (shape_at l)) (outs-Tuple vs)

pub shape-tuple : (es : List Expr) (env : Env) → option_map shape_of (eval_form (expr.Tuple es) env) ≡ cond (is_some (eval_all es env)) (Some shape.Tuple) None
shape-tuple es env = ap shape_in (eval-tuple es env) ∙ tuple (eval_all es env)

-- there is a value where there is a form of one
pub is_some-shape : (o : Option Value) → is_some (option_map shape_of o) ≡ is_some o
is_some-shape None = refl
is_some-shape (Some v) = refl

both : (o : Option Value) (os : Option (List Value)) → is_some (o >>= λ v. os >>= λ vs. Some (v ∷ vs)) ≡ (is_some o && is_some os)
both None os = refl
both (Some v) None = refl
both (Some v) (Some vs) = refl

pub is_some-eval_all : (e : Expr) (es : List Expr) (env : Env) → is_some (eval_all (e ∷ es) env) ≡ (is_some (eval e env) && is_some (eval_all es env))
is_some-eval_all e es env = both (eval e env) (eval_all es env)

pub ruleset shapes = (eval-form, shape-val, shape-var, shape-tuple, shape-bin, shape-pack, shape-with, is_some-shape, is_some-eval_all)
