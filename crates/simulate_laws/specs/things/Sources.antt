-- Processes of a source, and environments that agree on its binders (docs/TRANSLATION.md, "Translation and daemon").
use Rattle.std.specs.Prelude.{◌≡◌, ◌<◌, ℕ, List}
use Rattle.std.specs.FinMap as map
use Rattle.np_syntax.specs.declared.expression.Expr.{Expr}
use Rattle.np_syntax.specs.declared.process.Proc.{Proc}
use Rattle.np_eval.specs.Eval.{Env}
use Rattle.np_scope.specs.Sound.{Among, AllBelow, NoneTwice, IsSoundProc}
use Rattle.infrastructure_texts.specs.Pieces.{main, variable}

-- the environments of the low and the high level have the same values of the binders of a source, which are below a number
pub record Agrees (from : ℕ) (low high : Env) : Type 0 where
  pub same : (x : ℕ) → x < from → map.get low x ≡ map.get high x

-- how a process names the agent that it stands in: as main, or by a binder that it does not bind itself
pub data Names (n from : ℕ) (bound : List ℕ) : Expr → Type 0 where
  as_main : Names n from bound (main n)
  as_binder : {y : ℕ} → y < from → (Among y bound → ⊥) → Names n from bound (variable y)

-- a process of a source of n sites whose binders are below a number, written for an agent: a part of a sound program
pub record IsSource (n from : ℕ) (agent : Expr) (p : Proc) : Type 0 where
  pub scope : List ℕ
  pub node : ℕ
  pub after : ℕ
  pub bound : List ℕ
  pub sound : IsSoundProc n scope node p after bound
  pub in_scope : AllBelow from scope
  pub below : AllBelow from bound
  -- no binder is bound in the scope of itself: so what the agent is called by stays
  pub once : NoneTwice bound
  pub named : Names n from bound agent
