-- What following the events of a high text answers (docs/SCHEDULES.md, "Following a high text").
use Rattle.std.specs.Prelude.{◌≡◌, ℕ, List, length, Some}
use Rattle.np_syntax.specs.declared.event.Event.{Event}
use Rattle.np_syntax.specs.declared.program.Program.{Program}
use Rattle.np_calculus.specs.Config.{Config}
use Rattle.np_calculus.specs.Reductions.{run}
use Rattle.np_calculus.specs.Starts.{start_high}
use Rattle.np_serial.specs.Replays.{StopsAt}
use Rattle.np_verdict.specs.Report.{replay_text}
use Rattle.np_verdict.specs.declared.refusal.Refusal.{Refusal}
use Rattle.np_verdict.specs.declared.refusal.Refusal.TheVariants as refusals

-- the events are a run of the source, and the text has what it prints and how many they are
pub record Follows (p : Program) (events : List Event) (text : List ℕ) : Type 0 where
  pub last : Config
  pub reaches : run (start_high p) events ≡ Some last
  pub says : text ≡ replay_text p.sites last.said (length events)

-- so many of the first events are a run of the source, and one more is none
abbrev pub Stops : Program → List Event → Refusal → Type 0
Stops p events (refusals.NotARun index) = StopsAt (start_high p) events index
Stops p events _ = Unit {0}
