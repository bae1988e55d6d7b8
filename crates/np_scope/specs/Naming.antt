-- What names stand for (docs/LANGUAGE.md, "Scope"). There is one space of names, and an inner binder hides an outer one and
-- a site.
use Rattle.std.specs.Prelude.{◌≡◌, ℕ, cond, Option, None, Some, List, [], ◌∷◌, Result, Ok, Err}
use Rattle.std.specs.Str.{bytes_eq}
use Rattle.np_syntax.specs.declared.value.Value as value
use Rattle.np_syntax.specs.declared.expression.Expr.{Expr}
use Rattle.np_syntax.specs.declared.expression.ExprForm.{ExprForm}
use Rattle.np_syntax.specs.declared.expression.ExprForm as expr
use Rattle.np_tree.specs.declared.tree.Ident.{Ident}
use Rattle.np_scope.specs.declared.fail.ScopeFail.{ScopeFail}
use Rattle.np_scope.specs.declared.fail.ScopeFail.TheVariants as fail
use Rattle.np_scope.specs.declared.scope.Meaning.{Meaning}
use Rattle.np_scope.specs.declared.scope.Meaning.TheVariants as meaning
use Rattle.np_syntax.specs.Results.{◌>>=◌}
use Rattle.np_scope.specs.Outcomes.{Outcome}

-- a name, and what it stands for
abbrev pub Named : Type 0
Named = List ℕ × Meaning

-- what the innermost of the names in scope stands for that is this one. The innermost come first.
abbrev pub meaning_of : List Named → List ℕ → Option Meaning
meaning_of [] name = None
meaning_of (n ∷ scope) name = cond (bytes_eq n.0 name) (Some n.1) (meaning_of scope name)

abbrev pub meant_at : ℕ → Option Meaning → Outcome ExprForm
meant_at at (Some (meaning.Site site)) = Ok (expr.Val (value.Site site))
meant_at at (Some (meaning.Binder binder)) = Ok (expr.Var binder)
meant_at at None = Err (fail.Unbound at)

-- a use of a name
abbrev pub meant : List Named → Ident → Outcome ExprForm
meant scope name = meant_at name.at (meaning_of scope name.text)

-- a name that stands for a channel, with its own offset
abbrev pub use_of : List Named → Ident → Outcome Expr
use_of scope name = do
  f ← meant scope name
  Ok (record { at = name.at; form = f })

-- the names in scope are those of the outcome. Memory may run out at any time.
abbrev pub Enters : {A : Type 0} → Outcome (List Named) → Result A ScopeFail → List Named → Type 0
Enters outcome (Ok a) new = outcome ≡ Ok new
Enters outcome (Err e) new = ¬ (e ≡ fail.Memory) → outcome ≡ Err e
