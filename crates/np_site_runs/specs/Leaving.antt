-- What a migration and a message put out (docs/LANGUAGE.md, "Reductions").
use Rattle.std.specs.Prelude.{◌≡◌, ℕ, [], ◌∷◌, None, Some}
use Rattle.std.specs.FinMap as table
use Rattle.np_syntax.specs.declared.value.Name.{Name}
use Rattle.np_syntax.specs.declared.event.Kind.TheVariants as kind
use Rattle.np_tables.specs.Names.{NameMap}
use Rattle.np_calculus.specs.declared.config.Atom.{Atom}
use Rattle.np_calculus.specs.declared.config.Packet.{Packet}
use Rattle.np_calculus.specs.declared.config.Place.TheVariants as place
use Rattle.np_calculus.specs.Changes.{put, still}
use Rattle.stamp_history.specs.declared.stamped.Stamped.{Stamped}
use Rattle.np_site_runs.specs.merged.Deeds.{Deed, StampedItem}
use Rattle.np_site_runs.specs.Holdings.{Does, Holding}
use Rattle.np_site_runs.specs.Going.{Goes}
use Rattle.np_site_runs.specs.Loads.{agent_load, packet_load}
use Rattle.np_site_runs.specs.Within.{IsOwnEvent, gone_on}

-- an event that puts an item out
abbrev pub putting : Stamped → StampedItem → Deed
putting x item = record { event = x; taken = None; put = Some item }

abbrev pub without : Holding → Name → Holding
without h agent = record h { agents = table.remove h.agents agent }

-- a migration: the agent leaves with its new atoms
abbrev pub Leaves : Type 0
Leaves = (h : Holding) (x : Stamped) (item : StampedItem) (agent : Name) (to : ℕ) (old new : NameMap Atom)
    → IsOwnEvent h agent old kind.Depart x.event
    → Goes kind.Depart h.sites old new x.event (record still { places = put agent (place.Way to) ∷ [] })
    → item.item.load ≡ agent_load agent new to
    → Does h (putting x item) (without h agent)

-- a message: it leaves as a packet under the mark of the atom that sends it
abbrev pub Sends : Type 0
Sends = (h : Holding) (x : Stamped) (item : StampedItem) (agent : Name) (packet : Packet) (old new : NameMap Atom)
    → IsOwnEvent h agent old kind.Send x.event
    → Goes kind.Send h.sites old new x.event (record still { packets = put x.event.actor packet ∷ [] })
    → item.item.load ≡ packet_load x.event.actor packet
    → Does h (putting x item) (gone_on h agent new x.event None)
