-- What a resolved program is (docs/LANGUAGE.md, "Scope"): its process nodes are numbered in reading order, each binder is bound
-- at one place, each use stands in the scope of its binder, and no form of the low level is there.
use Rattle.std.specs.Prelude.{◌≡◌, ◌<◌, ◌≤◌, ◌⊎◌, ℕ, ◌+◌, List, [], ◌∷◌, ◌++◌, length}
use Rattle.np_syntax.specs.declared.value.Value.{Value}
use Rattle.np_syntax.specs.declared.value.Value as value
use Rattle.np_syntax.specs.declared.types.Ty.{Ty}
use Rattle.np_syntax.specs.declared.expression.Op.{Op}
use Rattle.np_syntax.specs.declared.expression.Expr.{Expr}
use Rattle.np_syntax.specs.declared.expression.ExprForm as expr
use Rattle.np_syntax.specs.declared.pattern.Pat.{Pat}
use Rattle.np_syntax.specs.declared.pattern.PatForm as pat
use Rattle.np_syntax.specs.declared.process.Proc.{Proc}
use Rattle.np_syntax.specs.declared.process.ProcForm.{ProcForm}
use Rattle.np_syntax.specs.declared.process.ProcForm as form
use Rattle.np_syntax.specs.declared.process.Role.TheVariants as role
use Rattle.np_syntax.specs.declared.program.Program.{Program}
use Rattle.np_syntax.specs.declared.limits.TheConstants.{MOST_NODES, MOST_BINDERS, MOST_SITES}
use Rattle.np_scope.specs.Resolved.{expression, main_name, pattern}
use Rattle.np_scope.specs.Written.{IsLiteral, IsChannelType}

-- ---- lists of binders

-- the binder is one of these
abbrev pub Among : ℕ → List ℕ → Type 0
Among x [] = ⊥
Among x (y ∷ ys) = (x ≡ y) ⊎ Among x ys

abbrev pub AllBelow : ℕ → List ℕ → Type 0
AllBelow n [] = Unit {0}
AllBelow n (x ∷ xs) = (x < n) × AllBelow n xs

abbrev pub NoneTwice : List ℕ → Type 0
NoneTwice [] = Unit {0}
NoneTwice (x ∷ xs) = (Among x xs → ⊥) × NoneTwice xs

-- the next numbers in order, from the first number on, and the number behind them
pub data AreNext : ℕ → List ℕ → ℕ → Type 0 where
  none : {next : ℕ} → AreNext next [] next
  more : {next after : ℕ} {xs : List ℕ} → AreNext (next + 1) xs after → AreNext next (next ∷ xs) after

-- ---- expressions

mutual
  -- of n sites, with these binders in scope
  pub data IsSoundExpr (n : ℕ) (scope : List ℕ) : Expr → Type 0 where
    literal : {at : ℕ} {v : Value} → IsLiteral v → IsSoundExpr n scope (expression at (expr.Val v))
    site : {at s : ℕ} → s < n → IsSoundExpr n scope (expression at (expr.Val (value.Site s)))
    main : {at : ℕ} → IsSoundExpr n scope (expression at (expr.Val (value.Agent (main_name n))))
    variable : {at x : ℕ} → Among x scope → IsSoundExpr n scope (expression at (expr.Var x))
    tuple : {at : ℕ} {es : List Expr} → AreSoundExprs n scope es → IsSoundExpr n scope (expression at (expr.Tuple es))
    operation : {at : ℕ} {o : Op} {a b : Expr} → IsSoundExpr n scope a → IsSoundExpr n scope b
        → IsSoundExpr n scope (expression at (expr.Bin o a b))

  pub data AreSoundExprs (n : ℕ) (scope : List ℕ) : List Expr → Type 0 where
    none : AreSoundExprs n scope []
    more : {e : Expr} {es : List Expr} → IsSoundExpr n scope e → AreSoundExprs n scope es → AreSoundExprs n scope (e ∷ es)

-- ---- patterns

mutual
  -- the binders in scope before, the pattern, the binders in scope behind it, and those that it binds, in reading order
  pub data Binds : List ℕ → Pat → List ℕ → List ℕ → Type 0 where
    any : {scope : List ℕ} {at : ℕ} → Binds scope (pattern at pat.Any) scope []
    name : {scope : List ℕ} {at x : ℕ} → Binds scope (pattern at (pat.Bind x)) (x ∷ scope) (x ∷ [])
    tuple : {scope inner bound : List ℕ} {at : ℕ} {ps : List Pat} → BindAll scope ps inner bound
        → Binds scope (pattern at (pat.Tuple ps)) inner bound

  pub data BindAll : List ℕ → List Pat → List ℕ → List ℕ → Type 0 where
    none : {scope : List ℕ} → BindAll scope [] scope []
    more : {scope mid inner xs ys : List ℕ} {p : Pat} {ps : List Pat} → Binds scope p mid xs → BindAll mid ps inner ys
        → BindAll scope (p ∷ ps) inner (xs ++ ys)

-- ---- processes

-- a process of the source, with its number
abbrev pub process : ℕ → ℕ → ProcForm → Proc
process node at f = record { tag = record { node = node; role = role.Plain }; at = at; form = f }

-- of n sites: the binders in scope, the number of the process, the process, the number behind those of its nodes, and the
-- binders that are bound in it, in reading order
pub data IsSoundProc (n : ℕ) : List ℕ → ℕ → Proc → ℕ → List ℕ → Type 0 where
  stop : {scope : List ℕ} {node at : ℕ} → IsSoundProc n scope node (process node at form.Stop) (node + 1) []
  parallel : {scope xs ys : List ℕ} {node mid after at : ℕ} {p q : Proc} → IsSoundProc n scope (node + 1) p mid xs
      → IsSoundProc n scope mid q after ys
      → IsSoundProc n scope node (process node at (form.Par p q)) after (xs ++ ys)
  channel : {scope xs : List ℕ} {node after at c : ℕ} {t : Ty} {p : Proc} → IsChannelType t
      → IsSoundProc n (c ∷ scope) (node + 1) p after xs
      → IsSoundProc n scope node (process node at (form.New c t p)) after (c ∷ xs)
  output : {scope : List ℕ} {node at : ℕ} {c e : Expr} → IsSoundExpr n scope c → IsSoundExpr n scope e
      → IsSoundProc n scope node (process node at (form.Out c e)) (node + 1) []
  input : {scope inner xs ys : List ℕ} {node after at : ℕ} {c : Expr} {x : Pat} {p : Proc} → IsSoundExpr n scope c → Binds scope x inner xs
      → IsSoundProc n inner (node + 1) p after ys → IsSoundProc n scope node (process node at (form.Inp c x p)) after (xs ++ ys)
  replicated : {scope inner xs ys : List ℕ} {node after at : ℕ} {c : Expr} {x : Pat} {p : Proc} → IsSoundExpr n scope c
      → Binds scope x inner xs
      → IsSoundProc n inner (node + 1) p after ys → IsSoundProc n scope node (process node at (form.Rep c x p)) after (xs ++ ys)
  agent : {scope xs ys : List ℕ} {node mid after at b : ℕ} {p q : Proc} → IsSoundProc n (b ∷ scope) (node + 1) p mid xs
      → IsSoundProc n (b ∷ scope) mid q after ys → IsSoundProc n scope node (process node at (form.Agent b p q)) after (b ∷ (xs ++ ys))
  migrate : {scope xs : List ℕ} {node after at : ℕ} {s : Expr} {p : Proc} → IsSoundExpr n scope s
      → IsSoundProc n scope (node + 1) p after xs
      → IsSoundProc n scope node (process node at (form.Migrate s p)) after xs
  iflocal : {scope xs ys : List ℕ} {node mid after at : ℕ} {b c e : Expr} {p q : Proc} → IsSoundExpr n scope b → IsSoundExpr n scope c
      → IsSoundExpr n scope e
      → IsSoundProc n scope (node + 1) p mid xs → IsSoundProc n scope mid q after ys
      → IsSoundProc n scope node (process node at (form.IfLocal b c e p q)) after (xs ++ ys)
  send : {scope : List ℕ} {node at : ℕ} {b s c e : Expr} → IsSoundExpr n scope b → IsSoundExpr n scope s → IsSoundExpr n scope c
      → IsSoundExpr n scope e
      → IsSoundProc n scope node (process node at (form.Send b s c e)) (node + 1) []
  post : {scope : List ℕ} {node at : ℕ} {b c e : Expr} → IsSoundExpr n scope b → IsSoundExpr n scope c → IsSoundExpr n scope e
      → IsSoundProc n scope node (process node at (form.Post b c e)) (node + 1) []
  test : {scope xs ys : List ℕ} {node mid after at : ℕ} {e : Expr} {p q : Proc} → IsSoundExpr n scope e
      → IsSoundProc n scope (node + 1) p mid xs
      → IsSoundProc n scope mid q after ys → IsSoundProc n scope node (process node at (form.If e p q)) after (xs ++ ys)
  bind : {scope inner xs ys : List ℕ} {node after at : ℕ} {x : Pat} {e : Expr} {p : Proc} → Binds scope x inner xs → IsSoundExpr n scope e
      → IsSoundProc n inner (node + 1) p after ys → IsSoundProc n scope node (process node at (form.Let x e p)) after (xs ++ ys)
  print : {scope : List ℕ} {node at : ℕ} {e : Expr} → IsSoundExpr n scope e
      → IsSoundProc n scope node (process node at (form.Print e)) (node + 1) []

-- ---- programs

-- main's site is one of the sites, which are not too many; nor are the process nodes, numbered from 1, nor the binders, each
-- bound at one place
pub record IsSound (p : Program) : Type 0 where
  -- the binders, in reading order
  pub bound : List ℕ
  -- the number behind those of the nodes
  pub after : ℕ
  pub main : IsSoundProc (length p.sites) [] 1 p.main after bound
  pub below : AllBelow p.binders bound
  pub once : NoneTwice bound
  pub at : p.at < length p.sites
  pub sites : length p.sites ≤ MOST_SITES
  pub few_nodes : after ≤ MOST_NODES + 1
  pub few_binders : p.binders ≤ MOST_BINDERS

-- such a program whose binders are numbered from 0, in reading order
pub record IsNumbered (p : Program) : Type 0 where
  pub sound : IsSound p
  pub numbered : AreNext 0 sound.bound p.binders
