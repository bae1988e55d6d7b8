-- The calculus in which migration is one step.
use Rattle.std.specs.Prelude.{◌≡◌, ℕ, List, [], ◌∷◌, ◌++◌, Option, Some}
use Rattle.std.specs.FinMap as map
use Rattle.np_syntax.specs.declared.value.Name.{Name}
use Rattle.np_syntax.specs.declared.event.Event.{Event}
use Rattle.np_syntax.specs.declared.event.Kind.{Kind}
use Rattle.np_syntax.specs.declared.event.Kind.TheVariants as kind
use Rattle.np_syntax.specs.declared.program.Program.{Program}
use Rattle.np_syntax.specs.Options.{◌>>=◌}
use Rattle.np_calculus.specs.declared.config.Atom.{Atom}
use Rattle.np_calculus.specs.declared.config.Place.{Place}
use Rattle.np_calculus.specs.declared.config.Place.TheVariants as place
use Rattle.np_calculus.specs.Begins.{arrival}
use Rattle.np_calculus.specs.Config.{Config}
use Rattle.np_calculus.specs.Reductions.{apply, run, way}
use Rattle.np_calculus.specs.Starts.{start_high}
use Rattle.run_views.specs.Past.{each_of}
use Rattle.run_views.specs.Tests.{tests}

-- the next event is the arrival of the agent
abbrev pub ArrivesNext : Name → List Event → Type 0
ArrivesNext agent [] = ⊥
ArrivesNext agent (e ∷ es) = (e.kind ≡ kind.Arrive) × (e.actor ≡ agent)

-- each Depart is directly followed by the Arrive of its agent
abbrev pub DepartsArrive : Config → List Event → Type 0
DepartsArrive c [] = Unit {0}
DepartsArrive c (e ∷ es) = (e.kind ≡ kind.Depart → (a : Atom) → map.get c.atoms e.actor ≡ Some a → ArrivesNext a.agent es)
    × ((d : Config) → apply c e ≡ Some d → DepartsArrive d es)

-- a run of the one-step calculus, from one configuration to another
pub record IsOneStepRun (c : Config) (events : List Event) (last : Config) : Type 0 where
  pub runs : run c events ≡ Some last
  pub one_step : DepartsArrive c events

-- ---- the one-step list of a run

-- the arrival of the agent that a Depart takes away, at the site to which it is under way after the event
abbrev pub arrival_after : Config → Option Config → Event → List Event
arrival_after c after e = each_of (map.get c.atoms e.actor)
    (λ a. each_of (after >>= λ d. map.get d.places a.agent >>= way) (λ site. arrival a.agent site ∷ []))

-- what stands in place of an event. An Arrive is moved to its Depart; a Depart brings the Arrive of its agent along, which is the
-- one that it has later in the run, if it has one there.
abbrev pub in_place_of : Kind → Config → Option Config → Event → List Event
in_place_of kind.Arrive c after e = []
in_place_of kind.Depart c after e = e ∷ arrival_after c after e
in_place_of _ c after e = e ∷ []

-- a run with each Arrive directly behind the Depart of its agent
abbrev pub one_step : Config → List Event → List Event
one_step c [] = []
one_step c (e ∷ es) = in_place_of e.kind c (apply c e) e ++ each_of (apply c e) (λ d. one_step d es)

-- ---- everybody arrived

abbrev pub arrived : Place → Place
arrived (place.At site) = place.At site
arrived (place.Way site) = place.At site

-- the second configuration is the first with each agent under way at the site to which it goes
pub record HasArrived (c d : Config) : Type 0 where
  pub sites : d.sites ≡ c.sites
  pub places : (agent : Name) → map.get d.places agent ≡ (map.get c.places agent >>= λ p. Some (arrived p))
  pub atoms : d.atoms ≡ c.atoms
  pub packets : d.packets ≡ c.packets
  pub born : d.born ≡ c.born
  pub said : d.said ≡ c.said

-- The one-step list of a run of a source without location tests is a run of the one-step calculus, and everybody has arrived at its end.
abbrev pub OneStepIsRun : Type 0
OneStepIsRun = (p : Program) (events : List Event) (last : Config) → tests p.main ≡ [] → run (start_high p) events ≡ Some last
    → (d : Config) × IsOneStepRun (start_high p) (one_step (start_high p) events) d × HasArrived last d

-- an agent has just one arrival: where it is under way
abbrev pub OneArrival : Type 0
OneArrival = (c d : Config) (e : Event) → e.kind ≡ kind.Arrive → apply c e ≡ Some d
    → (site : ℕ) × (map.get c.places e.actor ≡ Some (place.Way site)) × (e ≡ arrival e.actor site)
