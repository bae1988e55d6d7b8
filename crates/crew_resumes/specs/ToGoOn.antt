-- Events from which the sites of a low program can go on (docs/HISTORIES.md, "Stop and resume").
use Rattle.std.specs.Prelude.{ℕ, List, length, IsSome}
use Rattle.np_syntax.specs.declared.event.Event.{Event}
use Rattle.np_syntax.specs.declared.program.LowProgram.{LowProgram}
use Rattle.np_calculus.specs.Reductions.{run}
use Rattle.np_calculus.specs.Starts.{start_low}
use Rattle.run_save.specs.Ours.{IsOurs}
use Rattle.site_crew.specs.Lists.{AreWithin}

-- the events are a run of the low program within the budget that its sites make by themselves, so they can go on from them
pub record IsToGoOn (low : LowProgram) (budget : ℕ) (events : List Event) : Type 0 where
  pub runs : IsSome (run (start_low low) events)
  pub within : AreWithin (length low.sites) budget events
  pub ours : IsOurs low events
