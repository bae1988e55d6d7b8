-- What the sites make by themselves: each numbers the names that it makes, and each link is first in, first out
-- (docs/SCHEDULES.md, "What is drawn").
use Rattle.std.specs.Prelude.{◌≡◌, ◌+◌, ◌<◌, ℕ, List, [], ◌∷◌, ◌++◌, length, Option, Some}
use Rattle.std.specs.Option.{option_map, option_map_or}
use Rattle.std.specs.FinMap as map
use Rattle.np_syntax.specs.Options.{◌>>=◌}
use Rattle.np_syntax.specs.declared.value.Name.{Name}
use Rattle.np_syntax.specs.declared.event.Event.{Event}
use Rattle.np_calculus.specs.declared.config.Place.{Place}
use Rattle.np_calculus.specs.declared.config.Place.TheVariants as place
use Rattle.np_calculus.specs.Config.{Config}
use Rattle.np_calculus.specs.Reductions.{apply, run, way}
use Rattle.np_calculus.specs.Runs.{RunsWell}
use Rattle.np_calculus.specs.Well.{Has}
use Rattle.rand_pcg.specs.Pcg.{pcg32}
use Rattle.np_calculus.specs.Parts.{AreBorn}
use Rattle.np_serial.specs.Serial.{AreFresh}
use Rattle.run_views.specs.Laws.{HasSingleMarks}
use Rattle.run_save.specs.declared.trips.Item.{Item}
use Rattle.run_save.specs.declared.trips.Item.TheVariants as item
use Rattle.run_save.specs.declared.notes.Notes.{Notes}
use Rattle.run_save.specs.Left.{first_beside, names_made}
use Rattle.run_save.specs.Notes.{AreNoted}
use Rattle.run_save.specs.Ours.{IsOursFrom}
use Rattle.run_save.specs.Travels.{travels}
use Rattle.run_choices.specs.declared.choice.Choice.{Choice}
use Rattle.run_choices.specs.declared.choice.Choice.TheVariants as choice
use Rattle.run_choices.specs.declared.choice.Draw.{Draw}
use Rattle.run_choices.specs.Choices.{IsChoice, choice_of, event_by}
use Rattle.run_choices.specs.Draws.{draws, seeded}
use Rattle.run_choices.specs.Made.{AreMade}
use Rattle.run_choices.specs.Held.{Held, Lists, chosen_by}
use Rattle.run_choices.specs.Runs.{Orders}
use Rattle.run_choices.specs.Seeded.{FirstMarks}

-- ---- whose turn it is

-- which item is first on the link of an item to a site
abbrev pub Firsts : Type 0
Firsts = Item → ℕ → Option Item

-- an agent under way arrives, and a packet lands
abbrev pub coming : Item → Choice
coming (item.Agent agent) = choice.Arrives agent
coming (item.Packet mark) = choice.Lands mark

-- a choice whose agent is at a site; where it is under way, what is first on its link
abbrev pub in_turn_at : Firsts → Name → Choice → Place → Option Choice
in_turn_at firsts agent s (place.At site) = Some s
in_turn_at firsts agent s (place.Way site) = option_map coming (firsts (item.Agent agent) site)

abbrev pub in_turn_of : Config → Firsts → Name → Choice → Option Choice
in_turn_of c firsts mark s = do a ← map.get c.atoms mark; p ← map.get c.places a.agent; in_turn_at firsts a.agent s p

-- The choice that a choice stands for: what comes stands for what is first on its link, and so does the choice of an atom of which
-- the agent is under way. Each other one stands for itself.
abbrev pub in_turn : Config → Firsts → Choice → Option Choice
in_turn c firsts (choice.Arrives agent) = do p ← map.get c.places agent; to ← way p; option_map coming (firsts (item.Agent agent) to)
in_turn c firsts (choice.Lands mark) = do p ← map.get c.packets mark; option_map coming (firsts (item.Packet mark) p.to)
in_turn c firsts (choice.Acts mark) = in_turn_of c firsts mark (choice.Acts mark)
in_turn c firsts (choice.Meets input output) = in_turn_of c firsts input (choice.Meets input output)

-- ---- which names it makes

-- the site of a place, and the one to which an agent is under way
abbrev pub seat : Place → ℕ
seat (place.At site) = site
seat (place.Way site) = site

abbrev pub seat_of : Config → Name → ℕ
seat_of c mark = option_map_or seat (map.get c.atoms mark >>= λ a. map.get c.places a.agent) 0

-- the site at which a choice makes names; what comes makes none
abbrev pub site_of : Config → Choice → ℕ
site_of c (choice.Acts mark) = seat_of c mark
site_of c (choice.Meets input output) = seat_of c input
site_of c _ = 0

-- a site's next name, and the one after it, where this tells how many each site has made
abbrev pub next_name : (ℕ → ℕ) → ℕ → Name
next_name made site = record { site = site; n = made site }

abbrev pub later_name : (ℕ → ℕ) → ℕ → Name
later_name made site = record { site = site; n = made site + 1 }

-- the event of a choice, which makes the next names of its site
abbrev pub own_event : Config → (ℕ → ℕ) → Choice → Option Event
own_event c made s = event_by c s (next_name made (site_of c s)) (later_name made (site_of c s))

-- the event that the sites make of a choice
abbrev pub event_in_turn : Config → Firsts → (ℕ → ℕ) → Choice → Option Event
event_in_turn c firsts made s = in_turn c firsts s >>= own_event c made

-- the same behind the events of a run
abbrev pub event_behind : Config → List Event → Config → Choice → Option Event
event_behind start events c s = event_in_turn c (first_beside (travels start events)) (names_made events) s

-- ---- a run that is ours

-- a start of a program: what stands there is born, at sites of the program, nothing is under way, and the names that are born are the
-- program's own
pub record IsOwnStart (start : Config) : Type 0 where
  pub marks : FirstMarks start
  pub born : AreBorn start
  pub single : HasSingleMarks start
  pub fresh : AreFresh start.born start.sites 0
  pub housed : (agent : Name) (p : Place) → map.get start.places agent ≡ Some p → seat p < start.sites

-- the events are a run from such a start, and it is ours
pub record IsOwnRun (start c : Config) (events : List Event) : Type 0 where
  pub own : IsOwnStart start
  pub runs : (at : ℕ) × RunsWell start at
  pub reaches : run start events ≡ Some c
  pub ours : IsOursFrom start events

-- and this is noted of it
pub record IsCourse (start c : Config) (notes : Notes) (events : List Event) : Type 0 where
  pub run : IsOwnRun start c events
  pub noted : AreNoted notes start events

-- ---- one event

-- the sites make an event of the choice, which is enabled, and with which the run is ours
pub record IsServed (start : Config) (events : List Event) (c : Config) (s : Choice) : Type 0 where
  pub event : Event
  pub is : event_behind start events c s ≡ Some event
  pub enabled : Has (apply c event)
  pub ours : IsOursFrom start (events ++ event ∷ [])

-- what the sites make of a choice leads from one configuration to the other, and is noted behind the others
pub record Serves (c d : Config) (firsts : Firsts) (made : ℕ → ℕ) (old new : List Event) (s : Choice) : Type 0 where
  pub event : Event
  pub is : event_in_turn c firsts made s ≡ Some event
  pub leads : apply c event ≡ Some d
  pub noted : new ≡ old ++ event ∷ []

-- the sites can make each choice
abbrev pub EachIsServed : Type 0
EachIsServed = (start c : Config) (events : List Event) (s : Choice) → IsOwnRun start c events → IsChoice c s → IsServed start events c s

-- each event that is enabled, and with which the run is ours, is what they make of some choice
abbrev pub EachServes : Type 0
EachServes = (start c d : Config) (events : List Event) (e : Event)
    → run start events ≡ Some c → IsOursFrom start (events ++ e ∷ []) → apply c e ≡ Some d
    → IsChoice c (choice_of e) × (event_behind start events c (choice_of e) ≡ Some e)

-- ---- whole runs

-- the event that the sites make of a draw
abbrev pub event_drawn : Held → Config → List Event → Config → Draw → Option Event
event_drawn h start events c draw = chosen_by h draw >>= event_behind start events c

-- The events are those that the sites make of the draws, one after another. How a list stands in order where these events were made is
-- given for each beginning.
abbrev pub MakesInTurn : (List Event → Held) → Config → List Event → Config → List Draw → List Event → Type 0
MakesInTurn order start made c [] [] = Unit {0}
MakesInTurn order start made c (d ∷ ds) (e ∷ es) =
    (event_drawn (order made) start made c d ≡ Some e)
    × ((next : Config) → apply c e ≡ Some next → MakesInTurn order start (made ++ e ∷ []) next ds es)
MakesInTurn order start made c _ _ = ⊥

-- each run that is ours can be had: whatever the order of the lists, some draws make just it
abbrev pub EachOwnRun : Type 0
EachOwnRun = (start last : Config) (order : List Event → Held) → Orders start order → (events : List Event) → run start events ≡ Some last
    → IsOursFrom start events
    → (draws : List Draw) × MakesInTurn order start [] start draws events

-- an event that the sites make of a draw, where the list has all choices in some order
abbrev pub MakesNext : Config → List Event → Config → Draw → Event → Type 0
MakesNext start made c draw event = (h : Held) × Lists c h × (event_drawn h start made c draw ≡ Some event)

-- the events are those that the sites make of the draws of a generator of this seed
abbrev pub IsDrawn : Config → ℕ → List Event → Type 0
IsDrawn start seed events = AreMade (MakesNext start) [] start (draws pcg32 (seeded seed) (length events)) events
