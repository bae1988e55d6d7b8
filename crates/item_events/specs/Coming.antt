-- The event of what comes to a site (docs/LANGUAGE.md, "Reductions").
use Rattle.std.specs.Prelude.{ℕ}
use Rattle.np_syntax.specs.declared.event.Event.{Event}
use Rattle.np_calculus.specs.Begins.{arrival, landing}
use Rattle.agent_move.specs.declared.load.Load.{Load}
use Rattle.agent_move.specs.declared.load.Load.TheVariants as load

-- the event of this at a site
abbrev pub event_for : ℕ → Load → Event
event_for site (load.Agent agent) = arrival agent.name site
event_for site (load.Packet mark packet) = landing mark packet
