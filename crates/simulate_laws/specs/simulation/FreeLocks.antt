-- The locks of the daemon where they are free, by the atoms of the low level alone (docs/TRANSLATION.md, "Translation and daemon").
use Rattle.std.specs.Prelude.{◌≡◌, ℕ, is_some, Some, List}
use Rattle.std.specs.FinMap as map
use Rattle.np_syntax.specs.declared.value.Name.{Name}
use Rattle.np_syntax.specs.declared.value.Value.{Value}
use Rattle.np_syntax.specs.declared.value.Value as value
use Rattle.np_calculus.specs.declared.config.Atom.{Atom}
use Rattle.np_calculus.specs.declared.config.Place.TheVariants as place
use Rattle.np_calculus.specs.Config.{Config}
use Rattle.np_calculus.specs.Reductions.{sends}
use Rattle.np_calculus.specs.Starts.{daemon_agent, own}
use Rattle.np_eval.specs.Eval.{find_place}

-- an output of this value on this channel waits in the agent
pub record HasOutput (c : Config) (agent chan : Name) (v : Value) : Type 0 where
  pub mark : Name
  pub atom : Atom
  pub there : map.get c.atoms mark ≡ Some atom
  pub of : atom.agent ≡ agent
  pub gives : sends atom ≡ Some (chan, v)

-- the lock of an agent is free: its output waits in the daemon, with the site at which the agent is
pub record IsFreeLock (c : Config) (agent lock : Name) : Type 0 where
  pub site : ℕ
  pub stands : map.get c.places agent ≡ Some (place.At site)
  pub waits : HasOutput c (daemon_agent c.sites) lock (value.Site site)

-- The daemon's lock is free, and so is the lock of each agent of the source. The agents of the source are those that have a place at
-- the high level.
pub record HasFreeLocks (low high : Config) : Type 0 where
  -- the output on the daemon's lock waits in it, with the map
  pub places : List (Name × Name)
  pub waits : HasOutput low (daemon_agent low.sites) (own low.sites 10) (value.Places places)
  -- the map has just the agents of the source
  pub agents : (a : Name) → is_some (find_place places a) ≡ is_some (map.get high.places a)
  -- and the lock that it has for each of them is free
  pub locks : (a l : Name) → find_place places a ≡ Some l → IsFreeLock low a l
