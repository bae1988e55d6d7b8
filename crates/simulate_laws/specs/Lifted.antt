-- What the laws answer of a run of a compiled program.
use Rattle.std.specs.Prelude.{◌≡◌, List, Some}
use Rattle.np_syntax.specs.declared.event.Event.{Event}
use Rattle.np_syntax.specs.declared.program.Program.{Program}
use Rattle.np_calculus.specs.Config.{Config}
use Rattle.np_calculus.specs.Idle.{Idle}
use Rattle.np_calculus.specs.Reductions.{run}
use Rattle.np_calculus.specs.Starts.{start_high, start_low}
use Rattle.np_calculus.specs.Well.{Well}
use Rattle.daemon_encode.specs.Encoded.{encoded}
use Rattle.np_lift.specs.Lift.{lift}
use Rattle.np_lift.specs.Posts.{IsAllHanded, IsPaired}
use Rattle.simulate_laws.specs.simulation.FreeLocks.{HasFreeLocks}
use Rattle.simulate_laws.specs.simulation.HeldLetters.{ArePlaced}

-- the configuration that the lifted events of a run of the compiled program leave
pub record ShowsHigh (p : Program) (events : List Event) (high : Config) : Type 0 where
  pub runs : run (start_high p) (lift events) ≡ Some high
  -- the run of the compiled program printed the same
  pub said : (low : Config) → run (start_low (encoded p)) events ≡ Some low → low.said ≡ high.said
  -- no value of a wrong type is met there
  pub well : Well high
  -- each post was handed over once at most
  pub paired : IsPaired (start_low (encoded p)) events
  -- and the letter of one that was not is in its one place
  pub placed : ArePlaced (start_low (encoded p)) events

-- the events are a run of the compiled program, after which no site can act
pub record EndsAtRest (p : Program) (events : List Event) : Type 0 where
  pub last : Config
  pub runs : run (start_low (encoded p)) events ≡ Some last
  pub rests : Idle last

-- no site can act at the high level then, each post was handed over, and the daemon's lock and that of each agent are free
pub record ShowsRest (p : Program) (events : List Event) (high : Config) : Type 0 where
  pub shows : ShowsHigh p events high
  pub rests : Idle high
  pub handed : IsAllHanded (start_low (encoded p)) events
  pub locks : (low : Config) → run (start_low (encoded p)) events ≡ Some low → HasFreeLocks low high
