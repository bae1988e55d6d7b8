-- What an agent's calls do at its site (docs/LANGUAGE.md, "Reductions").
use Rattle.std.specs.Prelude.{◌≡◌, ◌+◌, ℕ, true, false, List, [], ◌∷◌, Option, None, Some}
use Rattle.std.specs.FinMap as map
use Rattle.np_syntax.specs.declared.value.Name.{Name}
use Rattle.np_syntax.specs.declared.value.Value.{Value}
use Rattle.np_syntax.specs.declared.event.Kind.{Kind}
use Rattle.np_syntax.specs.declared.event.Kind.TheVariants as kind
use Rattle.np_syntax.specs.declared.event.Made.{Made}
use Rattle.np_syntax.specs.declared.event.Made.TheVariants as made
use Rattle.np_tables.specs.Names.{NameMap}
use Rattle.np_calculus.specs.declared.config.Packet.{Packet}
use Rattle.np_calculus.specs.declared.config.Place.TheVariants as place
use Rattle.np_calculus.specs.Begins.{arrival, landing}
use Rattle.np_calculus.specs.Changes.{put, still}
use Rattle.stamp_history.specs.declared.stamped.Stamped.{Stamped}
use Rattle.np_site_runs.specs.merged.Deeds.{StampedItem}
use Rattle.np_site_runs.specs.Holdings.{Does}
use Rattle.np_site_runs.specs.Coming.{taking}
use Rattle.np_site_runs.specs.Leaving.{putting}
use Rattle.np_site_runs.specs.Loads.{agent_load, packet_load}
use Rattle.np_site_runs.specs.Making.{next_after}
use Rattle.np_site_runs.specs.Within.{inner, with_value}
use Rattle.np_code.specs.Programs.{ProgramTable}
use Rattle.agent_pool.specs.declared.ready.Ready.{Ready}
use Rattle.agent_pool.specs.Moves.{Births, IsTarget, LocalLeaves}
use Rattle.agent_pool.specs.Pools.{Pool, atoms_of}
use Rattle.agent_pool.specs.Rows.{Reduces}
use Rattle.site_agents.specs.deeds.Standing.{IsCall, Received, holding}

module _ (code : ProgramTable) (site : ℕ) (agents : NameMap Pool) (next : ℕ) (said : List Value) where
  -- an event within an agent
  abbrev pub GoesOn : Type 0
  GoesOn = (x : Stamped) (old new : Pool) (r : Ready) (k : Kind) (made : Made) (value : Option Value)
      → IsCall (holding code site agents next said) agents old new r k made x.event
      → (k ≡ kind.Local → ⊥) → (k ≡ kind.Post → ⊥) → Reduces k code old new r made (record still { said = value })
      → Does (holding code site agents next said) (inner x)
      (holding code site (map.insert agents old.name new) (next_after next made) (with_value said value))

  -- a location test whose agent is not here
  abbrev pub Passes : Type 0
  Passes = (x : Stamped) (old new : Pool) (r : Ready) (mark other : Name)
      → IsCall (holding code site agents next said) agents old new r kind.Local made.Nothing x.event
      → IsTarget code old r other → map.get agents other ≡ None → LocalLeaves code old new r mark false None
      → Does (holding code site agents next said) (inner x) (holding code site (map.insert agents old.name new) next said)

  -- one whose agent is here, maybe the same
  abbrev pub Tells : Type 0
  Tells = (x : Stamped) (old new there then : Pool) (r : Ready) (mark : Name) (packet : Packet)
      → IsCall (holding code site agents next said) agents old new r kind.Local (made.One mark) x.event
      → LocalLeaves code old new r mark true (Some packet)
      → map.get (map.insert agents old.name new) packet.agent ≡ Some there → Received there then mark packet
      → Does (holding code site agents next said) (inner x)
      (holding code site (map.insert (map.insert agents old.name new) packet.agent then) (next + 1) said)

  -- the making of an agent
  abbrev pub Makes : Type 0
  Makes = (x : Stamped) (old new child : Pool) (r : Ready) (agent mark : Name)
      → IsCall (holding code site agents next said) agents old new r kind.Agent (made.Two agent mark) x.event
      → Births code old new r agent mark child
      → Does (holding code site agents next said) (inner x)
      (holding code site (map.insert (map.insert agents old.name new) agent child) (next + 2) said)

  -- a migration
  abbrev pub Leaves : Type 0
  Leaves = (x : Stamped) (item : StampedItem) (old new : Pool) (r : Ready) (to : ℕ)
      → IsCall (holding code site agents next said) agents old new r kind.Depart made.Nothing x.event
      → Reduces kind.Depart code old new r made.Nothing (record still { places = put old.name (place.Way to) ∷ [] })
      → item.item.load ≡ agent_load new.name (atoms_of code.processes new) to
      → Does (holding code site agents next said) (putting x item) (holding code site (map.remove agents old.name) next said)

  -- a message
  abbrev pub Sends : Type 0
  Sends = (x : Stamped) (item : StampedItem) (old new : Pool) (r : Ready) (packet : Packet)
      → IsCall (holding code site agents next said) agents old new r kind.Send made.Nothing x.event
      → Reduces kind.Send code old new r made.Nothing (record still { packets = put r.actor packet ∷ [] })
      → item.item.load ≡ packet_load r.actor packet
      → Does (holding code site agents next said) (putting x item) (holding code site (map.insert agents old.name new) next said)

  -- an agent that arrives
  abbrev pub Arrives : Type 0
  Arrives = (x : Stamped) (item : StampedItem) (new : Pool) → x.event ≡ arrival new.name site
      → item.item.load ≡ agent_load new.name (atoms_of code.processes new) site
      → Does (holding code site agents next said) (taking x item) (holding code site (map.insert agents new.name new) next said)

  -- a packet that lands
  abbrev pub Lands : Type 0
  Lands = (x : Stamped) (item : StampedItem) (mark : Name) (packet : Packet) (there then : Pool) → x.event ≡ landing mark packet
      → packet.to ≡ site
      → item.item.load ≡ packet_load mark packet → map.get agents packet.agent ≡ Some there → Received there then mark packet
      → Does (holding code site agents next said) (taking x item) (holding code site (map.insert agents packet.agent then) next said)

  -- one whose agent is not here
  abbrev pub IsLost : Type 0
  IsLost = (x : Stamped) (item : StampedItem) (mark : Name) (packet : Packet) → x.event ≡ landing mark packet → packet.to ≡ site
      → item.item.load ≡ packet_load mark packet → map.get agents packet.agent ≡ None
      → Does (holding code site agents next said) (taking x item) (holding code site agents next said)

-- whatever the code, the site and the agents that stand there
abbrev pub Ever : (ProgramTable → ℕ → NameMap Pool → ℕ → List Value → Type 0) → Type 0
Ever P = (code : ProgramTable) (site : ℕ) (agents : NameMap Pool) (next : ℕ) (said : List Value) → P code site agents next said
