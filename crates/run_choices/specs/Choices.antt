-- What can happen next in a configuration, and the event that each choice is (docs/SCHEDULES.md, "Choices").
use Rattle.std.specs.Prelude.{◌≡◌, true, Option, None, Some, is_some}
use Rattle.std.specs.Option.{option_map}
use Rattle.std.specs.FinMap as map
use Rattle.np_syntax.specs.Options.{◌>>=◌}
use Rattle.np_syntax.specs.declared.value.Name.{Name}
use Rattle.np_syntax.specs.declared.event.Event.{Event}
use Rattle.np_syntax.specs.declared.event.Kind.{Kind}
use Rattle.np_syntax.specs.declared.event.Kind.TheVariants as kind
use Rattle.np_tables.specs.declared.errand.Meeting.{Meeting}
use Rattle.np_tables.specs.declared.errand.Errand.{Errand}
use Rattle.np_tables.specs.declared.errand.Errand.TheVariants as errand
use Rattle.np_configuration.specs.Placed.{travels}
use Rattle.np_eval.specs.Forms.{layer}
use Rattle.np_calculus.specs.declared.config.Atom.{Atom}
use Rattle.np_calculus.specs.declared.config.Place.{Place}
use Rattle.np_calculus.specs.declared.config.Place.TheVariants as place
use Rattle.np_calculus.specs.Begins.{arrival, begun_by, event_at, landing, made_by}
use Rattle.np_calculus.specs.Config.{Config}
use Rattle.np_calculus.specs.Reductions.{way}
use Rattle.np_configuration.specs.Errands.{errand_of}
use Rattle.run_choices.specs.declared.choice.Choice.{Choice}
use Rattle.run_choices.specs.declared.choice.Choice.TheVariants as choice

-- ---- the choices

-- what the atom of a mark waits for
abbrev pub errand_in : Config → Name → Option Errand
errand_in c mark = option_map errand_of (map.get c.atoms mark)

-- an output and an input wait for each other, on one channel of an agent
pub record Meet (c : Config) (input output : Name) : Type 0 where
  pub meeting : Meeting
  pub takes : errand_in c input ≡ Some (errand.Takes meeting)
  pub gives : errand_in c output ≡ Some (errand.Gives meeting)

-- The choices of a configuration: each agent under way, each packet, each atom that acts alone, and each pair of an output and
-- an input on one channel of an agent.
abbrev pub IsChoice : Config → Choice → Type 0
IsChoice c (choice.Arrives agent) = travels (map.get c.places agent) ≡ true
IsChoice c (choice.Lands mark) = is_some (map.get c.packets mark) ≡ true
IsChoice c (choice.Acts mark) = errand_in c mark ≡ Some errand.Acts
IsChoice c (choice.Meets input output) = Meet c input output

-- ---- the event of a choice

-- the event that an atom begins at its agent's site; where the agent is under way, its arrival
abbrev pub begun_at : Config → Name → Option Name → Name → Name → Atom → Place → Option Event
begun_at c mark other first second a (place.Way site) = Some (arrival a.agent site)
begun_at c mark other first second a (place.At site) =
    do k ← begun_by (layer a.proc); Some (event_at k site mark other a (made_by c site a.env (layer a.proc) first second))

abbrev pub begun : Config → Name → Option Name → Name → Name → Option Event
begun c mark other first second = do a ← map.get c.atoms mark; p ← map.get c.places a.agent; begun_at c mark other first second a p

-- the event of an agent that is under way, and of a packet
abbrev pub arrives : Config → Name → Option Event
arrives c agent = do p ← map.get c.places agent; s ← way p; Some (arrival agent s)

abbrev pub lands : Config → Name → Option Event
lands c mark = do p ← map.get c.packets mark; Some (landing mark p)

-- the event of a choice, where these are the next names
abbrev pub event_by : Config → Choice → Name → Name → Option Event
event_by c (choice.Arrives agent) first second = arrives c agent
event_by c (choice.Lands mark) first second = lands c mark
event_by c (choice.Acts mark) first second = begun c mark None first second
event_by c (choice.Meets input output) first second = begun c input (Some output) first second

-- the choice that an event is
abbrev pub choice_by : Kind → Name → Option Name → Choice
choice_by kind.Arrive actor other = choice.Arrives actor
choice_by kind.Land actor other = choice.Lands actor
choice_by k actor None = choice.Acts actor
choice_by k actor (Some output) = choice.Meets actor output

abbrev pub choice_of : Event → Choice
choice_of e = choice_by e.kind e.actor e.other
