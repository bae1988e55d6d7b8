-- What the laws of the simulation say.
use Rattle.std.specs.Prelude.{◌≡◌, ℕ, List, Some, length}
use Rattle.np_syntax.specs.declared.event.Event.{Event}
use Rattle.np_syntax.specs.declared.program.Program.{Program}
use Rattle.np_syntax.specs.declared.program.LowProgram.{LowProgram}
use Rattle.np_calculus.specs.Config.{Config}
use Rattle.np_calculus.specs.Parts.{IsLodged}
use Rattle.np_calculus.specs.Reductions.{run}
use Rattle.np_calculus.specs.Sight.{inside}
use Rattle.np_calculus.specs.Starts.{start_high, start_low}
use Rattle.np_lift.specs.Lift.{lift}
use Rattle.np_lift.specs.CachedLift.{Standing, at_first, lift_cached, standing_after}
use Rattle.np_check.specs.Faults.{IsAccepted}
use Rattle.infrastructure_texts.specs.Infrastructures.{Infrastructure}
use Rattle.daemon_encode.specs.Translates.{IsLowOf}
use Rattle.simulate_laws.specs.levels.Coupled.{Coupled, View}

-- Of n sites, with the source's binders below `from` and the daemon's numbered from `first`: the events `lifted` of the high level lead
-- from this start of it to a configuration to which `low` belongs, where marks stand for others as `standing` says.
pub record LeadsAbove (i : Infrastructure) (n from first : ℕ) (start : Config) (lifted : List Event) (standing : Standing)
    (low : Config) : Type 0 where
  pub high : Config
  pub runs : run start lifted ≡ Some high
  -- the same was printed
  pub said : low.said ≡ high.said
  pub view : View
  pub coupled : Coupled i n from first low high view
  pub stand : view.standing ≡ standing

-- where events of the low level lead to `low`, those that are read off lead to what it belongs to, and each mark stands for what it
-- stands for after them
abbrev pub IsLifted : Infrastructure → ℕ → ℕ → ℕ → Config → List Event → Config → Type 0
IsLifted i n from first start events low = LeadsAbove i n from first start (lift_cached events) (standing_after at_first events) low

-- With the central infrastructure they are read off one by one, each mark of the low level stands for itself, and there is no messenger.
abbrev pub IsCentralLifted : ℕ → ℕ → ℕ → Config → List Event → Config → Type 0
IsCentralLifted n from first start events low = LeadsAbove Infrastructure.central n from first start (lift events) at_first low

-- each run of the low level is a run of the high level, whichever the infrastructure
abbrev pub RunsAreLifted : Infrastructure → Type 0
RunsAreLifted i = (p : Program) (q : LowProgram) (low : IsLowOf i p q) → IsAccepted p → (events : List Event) (c : Config)
    → run (start_low q) events ≡ Some c
    → IsLifted i (length p.sites) p.binders low.first (start_high p) events c

abbrev pub CentralRunsAreLifted : Type 0
CentralRunsAreLifted = (p : Program) (q : LowProgram) (low : IsLowOf Infrastructure.central p q) → IsAccepted p
    → (events : List Event) (c : Config)
    → run (start_low q) events ≡ Some c → IsCentralLifted (length p.sites) p.binders low.first (start_high p) events c

-- each run of the low level leaves each atom with an agent that has a place
abbrev pub RunsAreLodged : Infrastructure → Type 0
RunsAreLodged i = (p : Program) (q : LowProgram) (low : IsLowOf i p q) → IsAccepted p → (events : List Event) (c : Config)
    → run (start_low q) events ≡ Some c
    → IsLodged (inside c)
