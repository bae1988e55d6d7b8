-- What the law of caches answers of a run of a compiled program.
use Rattle.std.specs.Prelude.{◌≡◌, ℕ, List, None, Some, length}
use Rattle.np_syntax.specs.declared.value.Name.{Name}
use Rattle.np_syntax.specs.declared.event.Event.{Event}
use Rattle.np_syntax.specs.declared.program.Program.{Program}
use Rattle.np_calculus.specs.Config.{Config}
use Rattle.np_calculus.specs.Idle.{Idle}
use Rattle.np_calculus.specs.Reductions.{run}
use Rattle.np_calculus.specs.Starts.{start_high, start_low}
use Rattle.np_calculus.specs.Well.{Well}
use Rattle.np_lift.specs.Posts.{Letter, deeds_to}
use Rattle.np_lift.specs.CachedLift.{at_first}
use Rattle.np_lift.specs.CachedPosts.{IsAllHandedCached, IsPairedCached, deeds_from}
use Rattle.cache_encode.specs.Encoded.{encoded_cached}
use Rattle.infrastructure_texts.specs.Infrastructures.{Infrastructure}
use Rattle.simulate_laws.specs.levels.Coupled.{View}
use Rattle.simulate_laws.specs.simulation.FreeLocks.{HasFreeLocks}
use Rattle.simulate_laws.specs.simulation.RestLaws.{HasCacheRest, HasRest}
use Rattle.simulate_laws.specs.simulation.Laws.{IsLifted}
use Rattle.simulate_laws.specs.simulation.HeldLetters.{ArePlacedCached}
use Rattle.simulate_laws.specs.simulation.OnePlace.{StandsOnOne}
use Rattle.simulate_laws.specs.simulation.UnderWay.{left_by}

-- no site can act at the high level either, each post was handed over once, and nothing is left to the daemon, to agents, caches and
-- messengers
pub record ShowsCachedRest (p : Program) (events : List Event) (low high : Config) (v : View) : Type 0 where
  pub idle : Idle high
  pub handed : IsAllHandedCached (start_low (encoded_cached p)) events
  pub infrastructure : HasRest v
  -- the daemon's lock is free, and that of each agent
  pub locks : HasFreeLocks low high
  pub caches : HasCacheRest low high v

-- the configuration that the lifted events of a run of the compiled program with caches leave
pub record ShowsCached (p : Program) (events : List Event) (high : Config) : Type 0 where
  pub low : Config
  pub reaches : run (start_low (encoded_cached p)) events ≡ Some low
  -- the lifted events lead to it, and the run printed the same; the daemon's binders are numbered from `first`
  pub first : ℕ
  pub lifted : IsLifted Infrastructure.cached (length p.sites) p.binders first (start_high p) events low
  pub leads : lifted.high ≡ high
  -- no value of a wrong type is met there
  pub well : Well high
  -- each post was handed over once at most, and the letter of one that was not stands on one thing
  pub paired : IsPairedCached (start_low (encoded_cached p)) events
  pub place : (mark : Name) (letter : Letter) → left_by None (deeds_to mark (deeds_from at_first (start_low (encoded_cached p)) events))
      ≡ Some letter
      → StandsOnOne (length p.sites) low lifted.view mark letter
  -- by the low level alone: it is in its one place
  pub placed : ArePlacedCached (start_low (encoded_cached p)) events
  pub rests : Idle low → ShowsCachedRest p events low high lifted.view
