-- Which expressions have a value that a pattern matches, and the forms of values, which alone decide whether
-- an expression has a value (docs/LANGUAGE.md, "Values and evaluation").
use Rattle.std.specs.Prelude.{Bool, Option, None, Some, is_some, List}
use Rattle.np_syntax.specs.declared.value.Value.{Value, Value-F, out-Value}
use Rattle.np_syntax.specs.declared.expression.Op.{Op}
use Rattle.np_syntax.specs.declared.expression.Op.TheVariants as op
use Rattle.np_syntax.specs.declared.expression.Expr.{Expr}
use Rattle.np_syntax.specs.declared.expression.ExprForm.{ExprForm}
use Rattle.np_syntax.specs.declared.pattern.Pat.{Pat}
use Rattle.np_syntax.specs.declared.pattern.PatForm as pat
use Rattle.np_syntax.specs.Options.{◌>>=◌}
use Rattle.np_eval.specs.declared.fitting.Shape.{Shape}
use Rattle.np_eval.specs.declared.fitting.Shape.TheVariants as shape
use Rattle.np_eval.specs.Eval.{Env, ValueLayer, eval, bind}
use Rattle.np_eval.specs.Levels.{eval_form, eval_all, bind_form, bind_all}

-- the expression has a value that the pattern matches
abbrev pub fits : Pat → Expr → Env → Bool
fits p e env = is_some (eval e env >>= λ v. bind p v env)

-- the form of an expression has a value that the tuple of the patterns matches
unfoldable pub fits_tuple : List Pat → ExprForm → Env → Bool
fits_tuple ps f env = is_some (eval_form f env >>= λ v. bind_form (pat.Tuple ps) v env)

-- each expression has a value, and each pattern matches its own
abbrev pub fits_all : List Pat → List Expr → Env → Bool
fits_all ps es env = is_some (eval_all es env >>= λ vs. bind_all ps vs env)

-- the form of a value
abbrev pub shape_at : ValueLayer → Shape
shape_at (Value-F.Int n) = shape.Int
shape_at (Value-F.Truth b) = shape.Truth
shape_at (Value-F.Str text) = shape.Str
shape_at (Value-F.Site s) = shape.Site
shape_at (Value-F.Agent a) = shape.Agent
shape_at (Value-F.Chan c) = shape.Chan
shape_at (Value-F.Tuple vs) = shape.Tuple
shape_at (Value-F.Letter c v) = shape.Letter
shape_at (Value-F.Places ps) = shape.Places

abbrev pub shape_of : Value → Shape
shape_of v = shape_at (out-Value v)

-- of a comparison for equality, of values of one form that may be compared
abbrev pub equal_shape : Shape → Shape → Option Shape
equal_shape shape.Int shape.Int = Some shape.Truth
equal_shape shape.Truth shape.Truth = Some shape.Truth
equal_shape shape.Str shape.Str = Some shape.Truth
equal_shape shape.Site shape.Site = Some shape.Truth
equal_shape shape.Agent shape.Agent = Some shape.Truth
equal_shape _ _ = None

abbrev pub operate_shape : Op → Shape → Shape → Option Shape
operate_shape op.Equal x y = equal_shape x y
operate_shape op.Less shape.Int shape.Int = Some shape.Truth
operate_shape _ shape.Int shape.Int = Some shape.Int
operate_shape _ _ _ = None

-- of a letter, by the form of its channel
abbrev pub pack_shape : Shape → Option Shape
pack_shape shape.Chan = Some shape.Letter
pack_shape _ = None

-- of the map of places with an agent's channel
abbrev pub with_shape : Shape → Shape → Shape → Option Shape
with_shape shape.Places shape.Agent shape.Chan = Some shape.Places
with_shape _ _ _ = None
