-- What a source can write: its values are numbers, truth values and strings, and the type at each `new` is a channel type
-- in which neither Letter nor Places stands (docs/LANGUAGE.md, "Scope" and "Types").
use Rattle.std.specs.Prelude.{ℕ, ℤ, Bool, List, [], ◌∷◌}
use Rattle.np_syntax.specs.declared.value.Value.{Value}
use Rattle.np_syntax.specs.declared.value.Value as value
use Rattle.np_syntax.specs.declared.types.Cap.{Cap}
use Rattle.np_syntax.specs.declared.types.Ty.{Ty}
use Rattle.np_syntax.specs.declared.types.Ty as ty
use Rattle.np_syntax.specs.declared.expression.Op.{Op}
use Rattle.np_tree.specs.declared.tree.Ident.{Ident}
use Rattle.np_tree.specs.declared.tree.RawExpr.{RawExpr}
use Rattle.np_tree.specs.declared.tree.RawExprForm as expr
use Rattle.np_tree.specs.declared.tree.RawPat.{RawPat}
use Rattle.np_tree.specs.declared.tree.RawProc.{RawProc}
use Rattle.np_tree.specs.declared.tree.RawProcForm as form
use Rattle.np_tree.specs.Grammar.{expression, process}

-- a number, a truth value or a string
pub data IsLiteral : Value → Type 0 where
  number : {n : ℤ} → IsLiteral (value.Int n)
  truth : {b : Bool} → IsLiteral (value.Truth b)
  string : {text : List ℕ} → IsLiteral (value.Str text)

mutual
  -- neither Letter nor Places stands in the type
  pub data IsSourceType : Ty → Type 0 where
    int : IsSourceType ty.Int
    truth : IsSourceType ty.Bool
    string : IsSourceType ty.Str
    site : IsSourceType ty.Site
    agent : IsSourceType ty.Agent
    channel : {c : Cap} {t : Ty} → IsSourceType t → IsSourceType (ty.Chan c t)
    tuple : {ts : List Ty} → AreSourceTypes ts → IsSourceType (ty.Tuple ts)

  pub data AreSourceTypes : List Ty → Type 0 where
    none : AreSourceTypes []
    more : {t : Ty} {ts : List Ty} → IsSourceType t → AreSourceTypes ts → AreSourceTypes (t ∷ ts)

-- a channel type, and neither Letter nor Places stands in it
pub data IsChannelType : Ty → Type 0 where
  carries : {c : Cap} {t : Ty} → IsSourceType t → IsChannelType (ty.Chan c t)

mutual
  -- the values of an expression are literals
  pub data HasLiterals : RawExpr → Type 0 where
    literal : {at : ℕ} {v : Value} → IsLiteral v → HasLiterals (expression at (expr.Val v))
    main : {at : ℕ} → HasLiterals (expression at expr.Main)
    name : {at : ℕ} {x : Ident} → HasLiterals (expression at (expr.Var x))
    tuple : {at : ℕ} {es : List RawExpr} → HaveLiterals es → HasLiterals (expression at (expr.Tuple es))
    operation : {at : ℕ} {o : Op} {a b : RawExpr} → HasLiterals a → HasLiterals b → HasLiterals (expression at (expr.Bin o a b))

  pub data HaveLiterals : List RawExpr → Type 0 where
    none : HaveLiterals []
    more : {e : RawExpr} {es : List RawExpr} → HasLiterals e → HaveLiterals es → HaveLiterals (e ∷ es)

-- the values of a process are literals, and the type at each `new` is a channel type that a source can write
pub data IsWritten : RawProc → Type 0 where
  stop : {at : ℕ} → IsWritten (process at form.Stop)
  parallel : {at : ℕ} {p q : RawProc} → IsWritten p → IsWritten q → IsWritten (process at (form.Par p q))
  channel : {at : ℕ} {c : Ident} {t : Ty} {p : RawProc} → IsChannelType t → IsWritten p → IsWritten (process at (form.New c t p))
  output : {at : ℕ} {c : Ident} {e : RawExpr} → HasLiterals e → IsWritten (process at (form.Out c e))
  input : {at : ℕ} {c : Ident} {x : RawPat} {p : RawProc} → IsWritten p → IsWritten (process at (form.Inp c x p))
  replicated : {at : ℕ} {c : Ident} {x : RawPat} {p : RawProc} → IsWritten p → IsWritten (process at (form.Rep c x p))
  agent : {at : ℕ} {b : Ident} {p q : RawProc} → IsWritten p → IsWritten q → IsWritten (process at (form.Agent b p q))
  migrate : {at : ℕ} {s : RawExpr} {p : RawProc} → HasLiterals s → IsWritten p → IsWritten (process at (form.Migrate s p))
  iflocal : {at : ℕ} {b e : RawExpr} {c : Ident} {p q : RawProc} → HasLiterals b → HasLiterals e → IsWritten p → IsWritten q
      → IsWritten (process at (form.IfLocal b c e p q))
  send : {at : ℕ} {b s e : RawExpr} {c : Ident} → HasLiterals b → HasLiterals s → HasLiterals e → IsWritten (process at (form.Send b s c e))
  post : {at : ℕ} {b e : RawExpr} {c : Ident} → HasLiterals b → HasLiterals e → IsWritten (process at (form.Post b c e))
  test : {at : ℕ} {e : RawExpr} {p q : RawProc} → HasLiterals e → IsWritten p → IsWritten q → IsWritten (process at (form.If e p q))
  bind : {at : ℕ} {x : RawPat} {e : RawExpr} {p : RawProc} → HasLiterals e → IsWritten p → IsWritten (process at (form.Let x e p))
  print : {at : ℕ} {e : RawExpr} → HasLiterals e → IsWritten (process at (form.Print e))
