-- What stands in the low program of a checked program (docs/LANGUAGE.md, "Types"): each use stands in the scope of its binder, each site
-- is one of the program, no value is a letter, none is a channel but the infrastructure's, and the type at each `new` is a channel type.
use Rattle.std.specs.Prelude.{◌≡◌, ◌<◌, ℕ, Bool, true, false, ◌||◌, nat_eq, List, [], ◌∷◌, length}
use Rattle.np_syntax.specs.declared.value.Value.{Value}
use Rattle.np_syntax.specs.declared.value.Value as value
use Rattle.np_syntax.specs.declared.types.Ty.{Ty}
use Rattle.np_syntax.specs.declared.expression.Op.{Op}
use Rattle.np_syntax.specs.declared.expression.Expr.{Expr}
use Rattle.np_syntax.specs.declared.expression.ExprForm as expr
use Rattle.np_syntax.specs.declared.pattern.Pat.{Pat}
use Rattle.np_syntax.specs.declared.pattern.PatForm as pat
use Rattle.np_syntax.specs.declared.process.Tag.{Tag}
use Rattle.np_syntax.specs.declared.process.Proc.{Proc}
use Rattle.np_syntax.specs.declared.process.ProcForm as form
use Rattle.np_syntax.specs.declared.program.LowProgram.{LowProgram}
use Rattle.np_scope.specs.Resolved.{expression, pattern}
use Rattle.np_scope.specs.Sound.{Among}
use Rattle.np_scope.specs.Written.{IsLiteral, IsChannelType}
use Rattle.np_calculus.specs.Starts.{own}
use Rattle.np_safety.specs.Low.{carried}
use Rattle.daemon_encode.specs.Translates.{source}

-- the number is that of an infrastructure's channel
abbrev pub is_listed : ℕ → List (ℕ × Ty) → Bool
is_listed i [] = false
is_listed i (e ∷ es) = nat_eq i e.0 || is_listed i es

-- of n sites
pub data IsLowValue (n : ℕ) : Value → Type 0 where
  literal : {v : Value} → IsLiteral v → IsLowValue n v
  site : {s : ℕ} → s < n → IsLowValue n (value.Site s)
  main : IsLowValue n (value.Agent (own n 0))
  daemon : IsLowValue n (value.Agent (own n 1))
  channel : {i : ℕ} → is_listed i carried ≡ true → IsLowValue n (value.Chan (own n i))
  places : IsLowValue n (value.Places ((own n 0, own n 13) ∷ []))
  -- a cache at its start
  no_places : IsLowValue n (value.Places [])

mutual
  -- with these binders in scope
  pub data IsLowExpr (n : ℕ) (scope : List ℕ) : Expr → Type 0 where
    constant : {at : ℕ} {v : Value} → IsLowValue n v → IsLowExpr n scope (expression at (expr.Val v))
    variable : {at x : ℕ} → Among x scope → IsLowExpr n scope (expression at (expr.Var x))
    tuple : {at : ℕ} {es : List Expr} → AreLowExprs n scope es → IsLowExpr n scope (expression at (expr.Tuple es))
    operation : {at : ℕ} {o : Op} {a b : Expr} → IsLowExpr n scope a → IsLowExpr n scope b
        → IsLowExpr n scope (expression at (expr.Bin o a b))
    letter : {at : ℕ} {c v : Expr} → IsLowExpr n scope c → IsLowExpr n scope v → IsLowExpr n scope (expression at (expr.Pack c v))
    with_lock : {at : ℕ} {m a l : Expr} → IsLowExpr n scope m → IsLowExpr n scope a → IsLowExpr n scope l
        → IsLowExpr n scope (expression at (expr.With m a l))

  pub data AreLowExprs (n : ℕ) (scope : List ℕ) : List Expr → Type 0 where
    none : AreLowExprs n scope []
    more : {e : Expr} {es : List Expr} → IsLowExpr n scope e → AreLowExprs n scope es → AreLowExprs n scope (e ∷ es)

mutual
  -- the binders in scope before, the pattern, and those behind it
  pub data Enters : List ℕ → Pat → List ℕ → Type 0 where
    any : {scope : List ℕ} {at : ℕ} → Enters scope (pattern at pat.Any) scope
    name : {scope : List ℕ} {at x : ℕ} → Enters scope (pattern at (pat.Bind x)) (x ∷ scope)
    tuple : {scope inner : List ℕ} {at : ℕ} {ps : List Pat} → EnterAll scope ps inner → Enters scope (pattern at (pat.Tuple ps)) inner

  pub data EnterAll : List ℕ → List Pat → List ℕ → Type 0 where
    none : {scope : List ℕ} → EnterAll scope [] scope
    more : {scope mid inner : List ℕ} {p : Pat} {ps : List Pat} → Enters scope p mid → EnterAll mid ps inner → EnterAll scope (p ∷ ps) inner

-- of n sites and with these binders in scope
pub data IsLowProc (n : ℕ) : List ℕ → Proc → Type 0 where
  stop : {scope : List ℕ} {k : Tag} {at : ℕ} → IsLowProc n scope (source k at form.Stop)
  parallel : {scope : List ℕ} {k : Tag} {at : ℕ} {p q : Proc} → IsLowProc n scope p → IsLowProc n scope q
      → IsLowProc n scope (source k at (form.Par p q))
  channel : {scope : List ℕ} {k : Tag} {at c : ℕ} {t : Ty} {p : Proc} → IsChannelType t → IsLowProc n (c ∷ scope) p
      → IsLowProc n scope (source k at (form.New c t p))
  output : {scope : List ℕ} {k : Tag} {at : ℕ} {c e : Expr} → IsLowExpr n scope c → IsLowExpr n scope e
      → IsLowProc n scope (source k at (form.Out c e))
  input : {scope inner : List ℕ} {k : Tag} {at : ℕ} {c : Expr} {x : Pat} {p : Proc} → IsLowExpr n scope c → Enters scope x inner
      → IsLowProc n inner p
      → IsLowProc n scope (source k at (form.Inp c x p))
  replicated : {scope inner : List ℕ} {k : Tag} {at : ℕ} {c : Expr} {x : Pat} {p : Proc} → IsLowExpr n scope c → Enters scope x inner
      → IsLowProc n inner p
      → IsLowProc n scope (source k at (form.Rep c x p))
  agent : {scope : List ℕ} {k : Tag} {at b : ℕ} {p q : Proc} → IsLowProc n (b ∷ scope) p → IsLowProc n (b ∷ scope) q
      → IsLowProc n scope (source k at (form.Agent b p q))
  migrate : {scope : List ℕ} {k : Tag} {at : ℕ} {s : Expr} {p : Proc} → IsLowExpr n scope s → IsLowProc n scope p
      → IsLowProc n scope (source k at (form.Migrate s p))
  iflocal : {scope : List ℕ} {k : Tag} {at : ℕ} {b c e : Expr} {p q : Proc} → IsLowExpr n scope b → IsLowExpr n scope c
      → IsLowExpr n scope e
      → IsLowProc n scope p → IsLowProc n scope q → IsLowProc n scope (source k at (form.IfLocal b c e p q))
  send : {scope : List ℕ} {k : Tag} {at : ℕ} {b s c e : Expr} → IsLowExpr n scope b → IsLowExpr n scope s → IsLowExpr n scope c
      → IsLowExpr n scope e
      → IsLowProc n scope (source k at (form.Send b s c e))
  test : {scope : List ℕ} {k : Tag} {at : ℕ} {e : Expr} {p q : Proc} → IsLowExpr n scope e → IsLowProc n scope p → IsLowProc n scope q
      → IsLowProc n scope (source k at (form.If e p q))
  bind : {scope inner : List ℕ} {k : Tag} {at : ℕ} {x : Pat} {e : Expr} {p : Proc} → IsLowExpr n scope e → Enters scope x inner
      → IsLowProc n inner p
      → IsLowProc n scope (source k at (form.Let x e p))
  print : {scope : List ℕ} {k : Tag} {at : ℕ} {e : Expr} → IsLowExpr n scope e → IsLowProc n scope (source k at (form.Print e))
  open_letter : {scope : List ℕ} {k : Tag} {at : ℕ} {e : Expr} → IsLowExpr n scope e → IsLowProc n scope (source k at (form.Open e))
  lookup : {scope : List ℕ} {k : Tag} {at x : ℕ} {a m : Expr} {p q : Proc} → IsLowExpr n scope a → IsLowExpr n scope m
      → IsLowProc n (x ∷ scope) p → IsLowProc n scope q
      → IsLowProc n scope (source k at (form.Lookup a m x p q))

-- main's site is one of the program, and this stands in its two processes, with no binder in scope
pub record IsLowSound (q : LowProgram) : Type 0 where
  pub at : q.at < length q.sites
  pub main : IsLowProc (length q.sites) [] q.main
  pub daemon : IsLowProc (length q.sites) [] q.daemon
