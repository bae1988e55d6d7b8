-- What the laws of sources say.
use Rattle.std.specs.Prelude.{◌≡◌, ℕ, Bool, true, List, Some, length}
use Rattle.std.specs.FinMap as map
use Rattle.np_syntax.specs.declared.value.Name.{Name}
use Rattle.np_syntax.specs.declared.value.Value.{Value}
use Rattle.np_syntax.specs.declared.expression.Expr.{Expr}
use Rattle.np_syntax.specs.declared.pattern.Pat.{Pat}
use Rattle.np_syntax.specs.declared.program.Program.{Program}
use Rattle.np_eval.specs.Eval.{Env, bind, eval}
use Rattle.np_calculus.specs.Starts.{main_agent}
use Rattle.np_scope.specs.Sound.{Among, AllBelow, Binds, IsSound, IsSoundExpr}
use Rattle.infrastructure_texts.specs.Pieces.{main}
use Rattle.simulate_laws.specs.things.Known.{IsKnown, Knows}
use Rattle.simulate_laws.specs.things.Sources.{Agrees, IsSource, Names}

abbrev pub SoundIsSource : Type 0
SoundIsSource = (p : Program) → IsSound p → IsSource (length p.sites) p.binders (main (length p.sites)) p.main

abbrev pub SameValue : Type 0
SameValue = (n from : ℕ) (scope : List ℕ) (e : Expr) (low high : Env) → IsSoundExpr n scope e → AllBelow from scope → Agrees from low high
    → eval e low ≡ eval e high

-- the high environment that a pattern gives: it agrees with the low one, and other binders keep their values
pub record BoundAlike (from : ℕ) (bound : List ℕ) (high : Env) (given : Env) (p : Pat) (v : Value) : Type 0 where
  pub env : Env
  pub is : bind p v high ≡ Some env
  pub agrees : Agrees from given env
  pub others : (y : ℕ) → (Among y bound → ⊥) → map.get env y ≡ map.get high y

abbrev pub SameBinding : Type 0
SameBinding = (from : ℕ) (scope inner bound : List ℕ) (p : Pat) (v : Value) (low high given : Env) → Binds scope p inner bound
    → Agrees from low high → bind p v low ≡ Some given
    → BoundAlike from bound high given p v

abbrev pub AgentStays : Type 0
AgentStays = (n from : ℕ) (bound : List ℕ) (a : Expr) (env next : Env) → Names n from bound a
    → ((y : ℕ) → (Among y bound → ⊥) → map.get next y ≡ map.get env y) → eval a next ≡ eval a env

abbrev pub ValueIsKnown : Type 0
ValueIsKnown = (agents chans : Name → Bool) (n from : ℕ) (scope : List ℕ) (e : Expr) (env : Env) (v : Value) → agents (main_agent n) ≡ true
    → IsSoundExpr n scope e → AllBelow from scope
    → Knows agents chans from env → eval e env ≡ Some v → IsKnown agents chans v

abbrev pub KeepsKnown : Type 0
KeepsKnown = (agents chans : Name → Bool) (from : ℕ) (scope inner bound : List ℕ) (p : Pat) (v : Value) (env next : Env)
    → Binds scope p inner bound → Knows agents chans from env → IsKnown agents chans v
    → bind p v env ≡ Some next → Knows agents chans from next

-- what is known stays known where more is
abbrev pub KnownMore : Type 0
KnownMore = (agents chans more wider : Name → Bool) (from : ℕ) (env : Env) → ((a : Name) → agents a ≡ true → more a ≡ true)
    → ((c : Name) → chans c ≡ true → wider c ≡ true) → Knows agents chans from env → Knows more wider from env
