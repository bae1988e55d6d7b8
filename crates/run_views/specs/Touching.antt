-- What an event touches and writes, as code keeps it.
use Rattle.std.specs.Prelude.{◌≡◌, ◌∷◌, ◌++◌, Option, option_map}
use Rattle.std.specs.FinMap as map
use Rattle.np_syntax.specs.declared.value.Name.{Name}
use Rattle.np_syntax.specs.declared.event.Event.{Event}
use Rattle.np_syntax.specs.Options.{◌>>=◌}
use Rattle.np_eval.specs.Eval.{agent_of}
use Rattle.np_eval.specs.Forms.{layer}
use Rattle.np_eval.specs.FormParts.{as_iflocal}
use Rattle.np_calculus.specs.declared.config.Atom.{Atom}
use Rattle.np_calculus.specs.Config.{Config}
use Rattle.np_calculus.specs.Footprints.{Footprint, asked_by, listed}
use Rattle.run_views.specs.Past.{made_names}
use Rattle.run_views.specs.declared.touching.Touched.{Touched}
use Rattle.run_views.specs.declared.touching.Written.{Written}

abbrev pub touched_as : Touched → Footprint
touched_as t = record { marks = listed t.actor ++ listed t.other; places = listed t.agent ++ listed t.asked }

abbrev pub written_as : Written → Footprint
written_as w = record { marks = listed w.actor ++ (listed w.other ++ made_names w.made); places = listed w.agent }

-- the agent for which a location test asks
abbrev pub asked_in : Atom → Option Name
asked_in a = as_iflocal (layer a.proc) >>= λ (agent, chan, sent, met, unmet). agent_of agent a.env

-- the agent to which the packet of a mark goes
abbrev pub bound_at : Config → Name → Option Name
bound_at c mark = option_map (λ p. p.agent) (map.get c.packets mark)

-- what the event of an atom touches
abbrev pub IsActing : Config → Event → Touched → Type 0
IsActing c e t = touched_as t ≡ record { marks = e.actor ∷ listed e.other; places = asked_by (map.get c.atoms e.actor) }
