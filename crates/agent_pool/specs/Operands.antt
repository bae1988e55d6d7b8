-- Operands by their forms (docs/LANGUAGE.md, "Values and evaluation").
use Rattle.std.specs.Prelude.{ℕ, Bool, true, false, Option, Some}
use Rattle.np_syntax.specs.declared.value.Name.{Name}
use Rattle.np_syntax.specs.declared.value.Value.{out-Value}
use Rattle.np_syntax.specs.declared.expression.Expr.{Expr}
use Rattle.np_syntax.specs.Options.{◌>>=◌}
use Rattle.np_eval.specs.declared.fitting.Shape.{Shape}
use Rattle.np_eval.specs.declared.fitting.Shape.TheVariants as shape
use Rattle.np_eval.specs.Eval.{Env, eval, as_site, places_of, find_place}

-- the site that an expression names
abbrev pub site_named : Expr → Env → Option ℕ
site_named e env = eval e env >>= λ v. as_site (out-Value v)

abbrev pub is_truth : Option Shape → Bool
is_truth (Some shape.Truth) = true
is_truth _ = false

abbrev pub is_letter : Option Shape → Bool
is_letter (Some shape.Letter) = true
is_letter _ = false

abbrev pub is_places : Option Shape → Bool
is_places (Some shape.Places) = true
is_places _ = false

-- the channel that the map of places of an expression has for an agent
abbrev pub place_in : Expr → Env → Name → Option (Option Name)
place_in among env agent = places_of among env >>= λ places. Some (find_place places agent)
