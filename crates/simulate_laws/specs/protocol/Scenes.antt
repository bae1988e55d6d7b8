-- What the protocol sees of a configuration: where agents are, and the daemon's map (docs/TRANSLATION.md, "Translation and daemon").
use Rattle.std.specs.Prelude.{ℕ, Bool, true, false, Option, Some, cond}
use Rattle.np_syntax.specs.declared.value.Name.{Name}
use Rattle.np_tables.specs.Names.{same_name}

-- where an agent is, if there is one
pub data Whereabouts : Type 0 where
  nowhere : Whereabouts
  at : ℕ → Whereabouts
  under_way : ℕ → Whereabouts

abbrev pub is_there : Whereabouts → Bool
is_there Whereabouts.nowhere = false
is_there _ = true

-- the daemon's map of agents to their locks, by its look-ups
abbrev pub Locks : Type 0
Locks = Name → Option Name

pub record Scene : Type 0 where
  pub place : Name → Whereabouts
  pub lock : Locks

-- a function with another value at one name
abbrev pub changed : {X : Type 0} → (Name → X) → Name → X → Name → X
changed f a x q = cond (same_name q a) x (f q)

abbrev pub with_place : Scene → Name → Whereabouts → Scene
with_place w a p = record w { place = changed w.place a p }

abbrev pub with_lock : Scene → Name → Name → Scene
with_lock w a l = record w { lock = changed w.lock a (Some l) }
