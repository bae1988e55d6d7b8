-- The list of a run in which migration is one step.
use Rattle.std.specs.Prelude.{◌≡◌, List, [], ◌∷◌, ◌++◌, Option, Some, option_map}
use Rattle.std.specs.FinMap as map
use Rattle.np_syntax.specs.declared.value.Name.{Name}
use Rattle.np_syntax.specs.declared.event.Event.{Event}
use Rattle.np_syntax.specs.declared.program.Program.{Program}
use Rattle.np_syntax.specs.Options.{◌>>=◌}
use Rattle.np_calculus.specs.Begins.{arrival}
use Rattle.np_calculus.specs.Config.{Config}
use Rattle.np_calculus.specs.Reductions.{apply, run, way}
use Rattle.np_calculus.specs.Starts.{start_high}
use Rattle.run_views.specs.OneStep.{HasArrived, IsOneStepRun, in_place_of, one_step}
use Rattle.run_views.specs.Past.{each_of}

-- the one-step list of a run of a source: it is a run of the one-step calculus, at whose end everybody has arrived
pub record IsStepped (p : Program) (events made : List Event) : Type 0 where
  pub list : made ≡ one_step (start_high p) events
  pub last : Config
  pub reaches : run (start_high p) events ≡ Some last
  pub end : Config
  pub runs : IsOneStepRun (start_high p) made end
  pub arrived : HasArrived last end

-- one event more of the run, and what stands in its place
pub record Advances (before after : Config) (front made : List Event) (e : Event) : Type 0 where
  pub applies : apply before e ≡ Some after
  pub adds : made ≡ front ++ in_place_of e.kind before (apply before e) e

abbrev pub agent_at : Config → Name → Option Name
agent_at c mark = option_map (λ a. a.agent) (map.get c.atoms mark)

-- the arrival of an agent where it is under way
abbrev pub arrivals : Config → Option Name → List Event
arrivals c agent = each_of agent (λ a. each_of (map.get c.places a >>= way) (λ site. arrival a site ∷ []))
