-- Runs that are chosen (docs/SCHEDULES.md, "What is proved").
use Rattle.std.specs.Prelude.{◌≡◌, ℕ, List, [], ◌∷◌, ◌++◌, length, Option, Some}
use Rattle.std.specs.Option.{option_map}
use Rattle.std.specs.FinMap as map
use Rattle.np_syntax.specs.Options.{◌>>=◌}
use Rattle.np_syntax.specs.declared.value.Name.{Name}
use Rattle.np_syntax.specs.declared.event.Event.{Event}
use Rattle.np_calculus.specs.Begins.{AreNew}
use Rattle.np_calculus.specs.Config.{Config}
use Rattle.np_calculus.specs.Reductions.{apply, run}
use Rattle.np_serial.specs.Serial.{IsEnabled, IsReached}
use Rattle.rand_pcg.specs.Pcg.{pcg32}
use Rattle.run_choices.specs.declared.choice.Choice.{Choice}
use Rattle.run_choices.specs.declared.choice.Draw.{Draw}
use Rattle.run_choices.specs.Choices.{IsChoice, choice_of, event_by}
use Rattle.run_choices.specs.Draws.{draws, seeded}
use Rattle.run_choices.specs.Held.{Held, Lists, chosen_by}
use Rattle.run_choices.specs.Made.{AreMade}

-- the agent of the atom of a mark
abbrev pub agent_in : Config → Name → Option Name
agent_in c mark = option_map (λ a. a.agent) (map.get c.atoms mark)

-- ---- one event

-- a choice can be made: it is an event that is enabled, and makes no names but these, which are new
abbrev pub EachCanGo : Type 0
EachCanGo = (c : Config) (s : Choice) (first second : Name) → IsReached c → IsChoice c s → AreNew c first second
    → (e : Event) × (event_by c s first second ≡ Some e) × IsEnabled c e first second

-- an event is one of the choices, under the names that it makes
pub record IsNamed (c : Config) (e : Event) : Type 0 where
  pub choice : IsChoice c (choice_of e)
  pub first : Name
  pub second : Name
  pub gives : event_by c (choice_of e) first second ≡ Some e

-- each event that is enabled is one of the choices
abbrev pub EachIsNamed : Type 0
EachIsNamed = (c d : Config) (e : Event) → apply c e ≡ Some d → IsNamed c e

-- some numbers pick each choice of a list that has them all, in whatever order
abbrev pub EachIsPicked : Type 0
EachIsPicked = (c : Config) (h : Held) (s : Choice) → Lists c h → IsChoice c s → (draw : Draw) × (chosen_by h draw ≡ Some s)

-- and they pick nothing else
abbrev pub EachIsChoice : Type 0
EachIsChoice = (c : Config) (h : Held) (draw : Draw) (s : Choice) → Lists c h → chosen_by h draw ≡ Some s → IsChoice c s

-- ---- whole runs

-- numbers, and names that an event may make
pub record Turn : Type 0 where
  pub draw : Draw
  pub first : Name
  pub second : Name

-- the event that is made of a list and a configuration
abbrev pub event_made : Held → Config → Turn → Option Event
event_made h c t = chosen_by h t.draw >>= λ s. event_by c s t.first t.second

-- The events are those that the turns make, one after another. How a list stands in order where these events were made is
-- given for each beginning.
abbrev pub MakesFrom : (List Event → Held) → List Event → Config → List Turn → List Event → Type 0
MakesFrom order made c [] [] = Unit {0}
MakesFrom order made c (t ∷ ts) (e ∷ es) =
    (event_made (order made) c t ≡ Some e) × ((d : Config) → apply c e ≡ Some d → MakesFrom order (made ++ e ∷ []) d ts es)
MakesFrom order made c _ _ = ⊥

-- a list of all choices, in some order, for each run from a start
abbrev pub Orders : Config → (List Event → Held) → Type 0
Orders start order = (events : List Event) (c : Config) → run start events ≡ Some c → Lists c (order events)

-- each run can be had: whatever the order of the lists, some turns make just it
abbrev pub EachRun : Type 0
EachRun = (start last : Config) (order : List Event → Held) → Orders start order → (events : List Event) → run start events ≡ Some last
    → (turns : List Turn) × MakesFrom order [] start turns events

-- ---- runs by seed

-- an event that a draw chooses among all that is enabled, under the names that it makes
pub record IsChosen (c : Config) (draw : Draw) (event : Event) : Type 0 where
  pub order : Held
  pub lists : Lists c order
  pub choice : Choice
  pub picked : chosen_by order draw ≡ Some choice
  pub first : Name
  pub second : Name
  pub is : event_by c choice first second ≡ Some event

abbrev pub ChoosesNext : List Event → Config → Draw → Event → Type 0
ChoosesNext made c draw event = IsChosen c draw event

-- the events are those that the draws of a generator of this seed choose
abbrev pub AreChosen : Config → ℕ → List Event → Type 0
AreChosen start seed events = AreMade ChoosesNext [] start (draws pcg32 (seeded seed) (length events)) events
