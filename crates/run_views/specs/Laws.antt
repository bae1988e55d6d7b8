-- What the past of a printed value is.
use Rattle.std.specs.Prelude.{◌≡◌, ℕ, List, [], ◌∷◌, ◌++◌, None, Some, IsSome, take, slice_get}
use Rattle.np_syntax.specs.declared.value.Name.{Name}
use Rattle.np_syntax.specs.declared.value.Value.{Value}
use Rattle.np_syntax.specs.declared.event.Event.{Event}
use Rattle.np_syntax.specs.declared.event.Kind.TheVariants as kind
use Rattle.np_syntax.specs.declared.program.LowProgram.{LowProgram}
use Rattle.np_calculus.specs.Config.{Config}
use Rattle.np_calculus.specs.Parts.{AreBorn}
use Rattle.np_calculus.specs.Reductions.{apply, run}
use Rattle.np_calculus.specs.Sight.{inside}
use Rattle.np_calculus.specs.Starts.{start_low}
use Rattle.run_views.specs.Past.{IsPastOf}

-- the event at place i of a run is a Print, which says this value with its site
pub record Says (c : Config) (events : List Event) (i : ℕ) (item : ℕ × Value) : Type 0 where
  pub before : Config
  pub comes : run c (take i events) ≡ Some before
  pub event : Event
  pub is : slice_get events i ≡ Some event
  pub prints : event.kind ≡ kind.Print
  pub after : Config
  pub applies : apply before event ≡ Some after
  pub says : after.said ≡ before.said ++ item ∷ []

-- the events are a run from here on, which says just this
pub record SaysJust (c : Config) (events : List Event) (item : ℕ × Value) : Type 0 where
  pub last : Config
  pub runs : run c events ≡ Some last
  pub said : last.said ≡ c.said ++ item ∷ []

-- no mark is that of an atom and of a packet
pub record HasSingleMarks (c : Config) : Type 0 where
  pub each : (q : Name) → IsSome ((inside c).atom q) → (inside c).packet q ≡ None

-- The past of a Print is a run, which says just the value of that Print, where the names that stand in the configuration are born.
abbrev pub PastIsRun : Type 0
PastIsRun = (c last : Config) (events past : List Event) (i : ℕ) (item : ℕ × Value) → AreBorn c → HasSingleMarks c
    → run c events ≡ Some last
    → Says c events i item → IsPastOf c events i past → SaysJust c past item

-- in a run of a low program from its start
abbrev pub LowPastIsRun : Type 0
LowPastIsRun = (low : LowProgram) (last : Config) (events past : List Event) (i : ℕ) (item : ℕ × Value)
    → run (start_low low) events ≡ Some last
    → Says (start_low low) events i item → IsPastOf (start_low low) events i past
    → (after : Config) × (run (start_low low) past ≡ Some after) × (after.said ≡ item ∷ [])

-- each Print of a run says a value
abbrev pub PrintSays : Type 0
PrintSays = (c last : Config) (events : List Event) (i : ℕ) (e : Event) → run c events ≡ Some last → slice_get events i ≡ Some e
    → e.kind ≡ kind.Print
    → (item : ℕ × Value) × Says c events i item
