-- The value of an expression, and the environment that a pattern gives (docs/LANGUAGE.md, "Values and evaluation").
use Rattle.std.specs.Prelude.{ℕ, Bool, true, false, not, cond, Option, None, Some, List, [], ◌∷◌, nat_eq, int_lt, ◌+ℤ◌, ◌-ℤ◌, ◌*ℤ◌}
use Rattle.std.specs.Ordering.{nat_cmp, int_eq}
use Rattle.std.specs.Int.{int_wrap, w64}
use Rattle.std.specs.Str.{bytes_eq}
use Rattle.std.specs.FinMap as map
use Rattle.np_syntax.specs.declared.value.Name.{Name}
use Rattle.np_syntax.specs.declared.value.Value.{Value, Value-F, out-Value}
use Rattle.np_syntax.specs.declared.value.Value as value
use Rattle.np_syntax.specs.declared.expression.Op.{Op}
use Rattle.np_syntax.specs.declared.expression.Op.TheVariants as op
use Rattle.np_syntax.specs.declared.expression.Expr.{Expr, fold-Expr}
use Rattle.np_syntax.specs.declared.expression.ExprForm.{ExprForm-F}
use Rattle.np_syntax.specs.declared.pattern.Pat.{Pat, fold-Pat}
use Rattle.np_syntax.specs.declared.pattern.PatForm.{PatForm-F}
pub use Rattle.np_syntax.specs.Parts.{as_letter, as_places}
use Rattle.np_syntax.specs.Options.{◌>>=◌, all_some}
use Rattle.np_tables.specs.Names.{same_name}

-- what binders stand for
abbrev pub Env : Type 0
Env = map.FinMap nat_cmp Value

-- a value by its form
abbrev pub ValueLayer : Type 0
ValueLayer = Value-F Value

abbrev pub as_truth : ValueLayer → Option Bool
as_truth (Value-F.Truth b) = Some b
as_truth _ = None

abbrev pub as_site : ValueLayer → Option ℕ
as_site (Value-F.Site s) = Some s
as_site _ = None

abbrev pub as_agent : ValueLayer → Option Name
as_agent (Value-F.Agent a) = Some a
as_agent _ = None

abbrev pub as_chan : ValueLayer → Option Name
as_chan (Value-F.Chan c) = Some c
as_chan _ = None

abbrev pub as_tuple : ValueLayer → Option (List Value)
as_tuple (Value-F.Tuple vs) = Some vs
as_tuple _ = None

abbrev pub same_truth : Bool → Bool → Bool
same_truth true y = y
same_truth false y = not y

-- equality of two values of one form, where values of that form may be compared
abbrev pub equal_at : ValueLayer → ValueLayer → Option Bool
equal_at (Value-F.Int x) (Value-F.Int y) = Some (int_eq x y)
equal_at (Value-F.Truth x) (Value-F.Truth y) = Some (same_truth x y)
equal_at (Value-F.Str x) (Value-F.Str y) = Some (bytes_eq x y)
equal_at (Value-F.Site x) (Value-F.Site y) = Some (nat_eq x y)
equal_at (Value-F.Agent x) (Value-F.Agent y) = Some (same_name x y)
equal_at _ _ = None

-- sums, differences and products wrap in 64 bits with sign
abbrev pub operate_at : Op → ValueLayer → ValueLayer → Option Value
operate_at op.Add (Value-F.Int x) (Value-F.Int y) = Some (value.Int (int_wrap w64 (x +ℤ y)))
operate_at op.Sub (Value-F.Int x) (Value-F.Int y) = Some (value.Int (int_wrap w64 (x -ℤ y)))
operate_at op.Mul (Value-F.Int x) (Value-F.Int y) = Some (value.Int (int_wrap w64 (x *ℤ y)))
operate_at op.Less (Value-F.Int x) (Value-F.Int y) = Some (value.Truth (int_lt x y))
operate_at op.Equal a b = equal_at a b >>= λ same. Some (value.Truth same)
operate_at _ _ _ = None

abbrev pub operate : Op → Value → Value → Option Value
operate o a b = operate_at o (out-Value a) (out-Value b)

-- the places with an agent's channel replaced, or with the pair added at the end
abbrev pub put_place : List (Name × Name) → Name → Name → List (Name × Name)
put_place [] agent lock = (agent, lock) ∷ []
put_place (p ∷ ps) agent lock = cond (same_name p.0 agent) ((agent, lock) ∷ ps) (p ∷ put_place ps agent lock)

-- the channel that the places have for an agent
abbrev pub find_place : List (Name × Name) → Name → Option Name
find_place [] agent = None
find_place (p ∷ ps) agent = cond (same_name p.0 agent) (Some p.1) (find_place ps agent)

abbrev pub pack : Value → Value → Option Value
pack chan v = as_chan (out-Value chan) >>= λ c. Some (value.Letter c v)

abbrev pub with_place : Value → Value → Value → Option Value
with_place places agent lock =
    do
      ps ← as_places (out-Value places)
      a ← as_agent (out-Value agent)
      l ← as_chan (out-Value lock)
      Some (value.Places (put_place ps a l))

abbrev pub eval_step : Env → ExprForm-F (Option Value) (Option Value) → Option Value
eval_step env (ExprForm-F.Val v) = Some v
eval_step env (ExprForm-F.Var x) = map.get env x
eval_step env (ExprForm-F.Tuple parts) = do values ← all_some parts; Some (value.Tuple values)
eval_step env (ExprForm-F.Bin o a b) = do x ← a; y ← b; operate o x y
eval_step env (ExprForm-F.Pack c e) = do chan ← c; v ← e; pack chan v
eval_step env (ExprForm-F.With m a l) = do places ← m; agent ← a; lock ← l; with_place places agent lock

-- the value of an expression, or none where an operand has the wrong form
unfoldable pub eval : Expr → Env → Option Value
eval e env = fold-Expr (Option Value) (Option Value) (eval_step env) (λ e. e.form) e

-- the channel that an expression names, and likewise an agent, a truth value, a letter and a map of places
abbrev pub chan_of : Expr → Env → Option Name
chan_of e env = eval e env >>= λ v. as_chan (out-Value v)

abbrev pub agent_of : Expr → Env → Option Name
agent_of e env = eval e env >>= λ v. as_agent (out-Value v)

abbrev pub truth_of : Expr → Env → Option Bool
truth_of e env = eval e env >>= λ v. as_truth (out-Value v)

abbrev pub letter_of : Expr → Env → Option (Name × Value)
letter_of e env = eval e env >>= λ v. as_letter (out-Value v)

abbrev pub places_of : Expr → Env → Option (List (Name × Name))
places_of e env = eval e env >>= λ v. as_places (out-Value v)

-- what a pattern does to an environment at a value
abbrev pub Binding : Type 0
Binding = Value → Env → Option Env

abbrev pub bind_each : List Binding → List Value → Env → Option Env
bind_each [] [] env = Some env
bind_each (p ∷ ps) (v ∷ vs) env = p v env >>= bind_each ps vs
bind_each _ _ env = None

abbrev pub bind_step : PatForm-F Binding Binding → Binding
bind_step PatForm-F.Any v env = Some env
bind_step (PatForm-F.Bind x) v env = Some (map.insert env x v)
bind_step (PatForm-F.Tuple ps) v env = do vs ← as_tuple (out-Value v); bind_each ps vs env

-- the environment with what the pattern gives the value put over it, or none where it does not match
unfoldable pub bind : Pat → Value → Env → Option Env
bind = fold-Pat Binding Binding bind_step (λ p. p.form)
