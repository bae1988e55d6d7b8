-- What holds of typed configurations (docs/LANGUAGE.md, "Reductions").
use Rattle.std.specs.Prelude.{◌≡◌, Option, None, Some, List, length}
use Rattle.std.specs.FinMap as map
use Rattle.np_syntax.specs.declared.value.Name.{Name}
use Rattle.np_syntax.specs.declared.types.Cap.{Cap}
use Rattle.np_syntax.specs.declared.types.Ty.{Ty}
use Rattle.np_syntax.specs.declared.program.Program.{Program}
use Rattle.np_syntax.specs.declared.event.Event.{Event}
use Rattle.np_types.specs.Worlds.{World}
use Rattle.np_calculus.specs.Config.{Config}
use Rattle.np_calculus.specs.Reductions.{apply, run}
use Rattle.np_calculus.specs.Runs.{RunsWell}
use Rattle.np_calculus.specs.Starts.{start_high}
use Rattle.np_calculus.specs.Well.{Well, WellAlong}
use Rattle.np_check.specs.Faults.{IsAccepted}
use Rattle.np_safety.specs.Channels.{Channels, makes_at, world}
use Rattle.np_safety.specs.Typed.{Typed, AreBorn, TypedAlong}

-- the channel that is made has this type in the world
abbrev pub HasMade : World → Option (Name × (Cap × Ty)) → Type 0
HasMade w None = Unit {0}
HasMade w (Some made) = w.chan made.0 ≡ Some made.1

-- each event keeps a configuration typed, in a world where the channel that it makes has the type that is written at its `new`
abbrev pub KeepsTyped : Type 0
KeepsTyped = (w : World) (c d : Config) (e : Event) → Typed w c → apply c e ≡ Some d → HasMade w (makes_at e.kind c e) → Typed w d

-- what is typed in the world of its sites is well
abbrev pub TypedIsWell : Type 0
TypedIsWell = (c : Config) (g : Channels) → Typed (world c.sites g) c → Well c

-- every run from what is typed is typed throughout, and meets no value of a wrong type
abbrev pub StaysTyped : Type 0
StaysTyped = (c : Config) (g : Channels) → Typed (world c.sites g) c → AreBorn c g → (events : List Event) (d : Config)
    → run c events ≡ Some d
    → TypedAlong c g events × WellAlong c events

-- a resolved program without a fault is typed at its start, where no channel is made yet
abbrev pub StartsTyped : Type 0
StartsTyped = (p : Program) → IsAccepted p → Typed (world (length p.sites) map.empty) (start_high p)

-- every run of such a program is typed throughout, and meets no value of a wrong type
abbrev pub WellTyped : Type 0
WellTyped = (p : Program) → IsAccepted p → (events : List Event) (d : Config) → run (start_high p) events ≡ Some d
    → TypedAlong (start_high p) map.empty events × WellAlong (start_high p) events

-- the start of such a program can run
abbrev pub RunsWellTyped : Type 0
RunsWellTyped = (p : Program) → IsAccepted p → RunsWell (start_high p) p.at
