-- Values that name only agents and channels that are known.
use Rattle.std.specs.Prelude.{◌≡◌, ◌<◌, ℕ, Bool, true, List, [], ◌∷◌, Some}
use Rattle.std.specs.FinMap as map
use Rattle.np_syntax.specs.declared.value.Name.{Name}
use Rattle.np_syntax.specs.declared.value.Value.{Value}
use Rattle.np_syntax.specs.declared.value.Value as value
use Rattle.np_eval.specs.Eval.{Env}
use Rattle.np_scope.specs.Written.{IsLiteral}

mutual
  -- no letter and no map of places, and of these agents and channels alone
  pub data IsKnown (agents chans : Name → Bool) : Value → Type 0 where
    literal : {v : Value} → IsLiteral v → IsKnown agents chans v
    site : {s : ℕ} → IsKnown agents chans (value.Site s)
    agent : {a : Name} → agents a ≡ true → IsKnown agents chans (value.Agent a)
    channel : {c : Name} → chans c ≡ true → IsKnown agents chans (value.Chan c)
    tuple : {vs : List Value} → AreKnown agents chans vs → IsKnown agents chans (value.Tuple vs)

  pub data AreKnown (agents chans : Name → Bool) : List Value → Type 0 where
    none : AreKnown agents chans []
    more : {v : Value} {vs : List Value} → IsKnown agents chans v → AreKnown agents chans vs → AreKnown agents chans (v ∷ vs)

-- the values of a source's binders
pub record Knows (agents chans : Name → Bool) (from : ℕ) (env : Env) : Type 0 where
  pub each : (x : ℕ) (v : Value) → x < from → map.get env x ≡ Some v → IsKnown agents chans v
