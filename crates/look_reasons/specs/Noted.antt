-- What is noted of a history (docs/PICTURES.md, "Refusals").
use Rattle.std.specs.Prelude.{List, ℕ, IsSome}
use Rattle.np_syntax.specs.declared.event.Event.{Event}
use Rattle.np_syntax.specs.declared.program.LowProgram.{LowProgram}
use Rattle.np_calculus.specs.Reductions.{run}
use Rattle.np_calculus.specs.Starts.{start_low}
use Rattle.np_sources.specs.Reaches.{IsLowOf}
use Rattle.np_words.specs.declared.modes.Infrastructure.{Infrastructure}
use Rattle.np_words.specs.declared.modes.Infrastructure.TheVariants as infrastructures

-- the infrastructure that is not this one
abbrev pub other : Infrastructure → Infrastructure
other infrastructures.Central = infrastructures.Cache
other infrastructures.Cache = infrastructures.Central

-- the events are a run of the source with an infrastructure
pub record IsRunWith (infrastructure : Infrastructure) (source : List ℕ) (events : List Event) : Type 0 where
  pub low : LowProgram
  pub lowered : IsLowOf infrastructure source low
  pub run : IsSome (run (start_low low) events)
