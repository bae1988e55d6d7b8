-- What the serial run promises (docs/LANGUAGE.md, "Reductions").
use Rattle.std.specs.Prelude.{◌≡◌, ◌≤◌, false, ◌↔◌, ℕ, List, [], ◌∷◌, ◌++◌, length, Option, Some, None}
use Rattle.std.specs.FinMap as map
use Rattle.std.specs.FinSet as set
use Rattle.np_syntax.specs.declared.value.Name.{Name}
use Rattle.np_syntax.specs.declared.event.Event.{Event}
use Rattle.np_syntax.specs.declared.event.End.{End}
use Rattle.np_syntax.specs.declared.event.End.TheVariants.{Rest, Spent}
use Rattle.np_tables.specs.declared.errand.Ready.{Ready}
use Rattle.np_tables.specs.declared.errand.Ready.TheVariants as ready
use Rattle.np_tables.specs.Names.{NameSet}
use Rattle.np_calculus.specs.declared.config.Place.TheVariants as place
use Rattle.np_calculus.specs.Begins.{MakesAtMost}
use Rattle.np_calculus.specs.Config.{Config}
use Rattle.np_calculus.specs.Idle.{Idle}
use Rattle.np_calculus.specs.Reductions.{apply, run}
use Rattle.np_calculus.specs.Runs.{RunsWell}
use Rattle.np_calculus.specs.Well.{Has, WellAlong}

-- a configuration of a run from a start that can run
pub record IsReached (c : Config) : Type 0 where
  pub start : Config
  pub at : ℕ
  pub runs : RunsWell start at
  pub events : List Event
  pub reaches : run start events ≡ Some c

-- the mark of the atom that acts, and the mark of the output that it takes
abbrev pub actor_of : Ready → Name
actor_of (ready.Acts mark) = mark
actor_of (ready.Meets input output) = input

abbrev pub taken_by : Ready → Option Name
taken_by (ready.Acts mark) = None
taken_by (ready.Meets input output) = Some output

-- the agent stands at some site
abbrev pub Stands : Config → Name → Type 0
Stands c agent = (site : ℕ) × (map.get c.places agent ≡ Some (place.At site))

-- an event that is enabled, and makes no names but these
pub record IsEnabled (c : Config) (e : Event) (first second : Name) : Type 0 where
  pub enabled : Has (apply c e)
  pub made : MakesAtMost e.made first second

-- an event that is enabled, and makes no names but these, leads from one configuration to the other, and is noted behind the
-- others
pub record Advances (c d : Config) (old new : List Event) (first second : Name) : Type 0 where
  pub event : Event
  pub enabled : IsEnabled c event first second
  pub leads : apply c event ≡ Some d
  pub noted : new ≡ old ++ event ∷ []

-- of the names that are not the program's own, none from this number on is born
pub record AreFresh (born : NameSet) (sites first : ℕ) : Type 0 where
  pub each : (q : Name) → (q.site ≡ sites → ⊥) → first ≤ q.n → set.contains born q ≡ false

-- a run from the start within the budget, with how it ended
pub record IsSerialRun (start : Config) (budget : ℕ) (events : List Event) (last : Config) (end : End) : Type 0 where
  pub reaches : run start events ≡ Some last
  -- no value of a wrong type is met after any prefix
  pub well : WellAlong start events
  pub within : length events ≤ budget
  pub rest : (end ≡ Rest) ↔ Idle last
  pub spent : (end ≡ Spent) ↔ ((length events ≡ budget) × ¬ Idle last)
