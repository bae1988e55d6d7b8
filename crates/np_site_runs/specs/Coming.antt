-- What an agent that arrives and a packet that lands do (docs/LANGUAGE.md, "Reductions").
use Rattle.std.specs.Prelude.{◌≡◌, None, Some}
use Rattle.std.specs.FinMap as table
use Rattle.np_syntax.specs.declared.value.Name.{Name}
use Rattle.np_tables.specs.Names.{NameMap}
use Rattle.np_calculus.specs.declared.config.Atom.{Atom}
use Rattle.np_calculus.specs.declared.config.Packet.{Packet}
use Rattle.np_calculus.specs.Begins.{arrival, landing}
use Rattle.np_calculus.specs.Rows.{output_of}
use Rattle.stamp_history.specs.declared.stamped.Stamped.{Stamped}
use Rattle.np_site_runs.specs.merged.Deeds.{Deed, StampedItem}
use Rattle.np_site_runs.specs.Holdings.{Does, Holding}
use Rattle.np_site_runs.specs.Loads.{agent_load, packet_load}
use Rattle.np_site_runs.specs.Within.{given}

-- an event that takes an item
abbrev pub taking : Stamped → StampedItem → Deed
taking x item = record { event = x; taken = Some item; put = None }

-- an agent that arrives stands here then, with its atoms
abbrev pub Arrives : Type 0
Arrives = (h : Holding) (x : Stamped) (item : StampedItem) (agent : Name) (atoms : NameMap Atom) → x.event ≡ arrival agent h.site
    → item.item.load ≡ agent_load agent atoms h.site → Does h (taking x item) (record h { agents = table.insert h.agents agent atoms })

-- a packet that lands is an output of its agent under its mark, where this stands here
abbrev pub Lands : Type 0
Lands = (h : Holding) (x : Stamped) (item : StampedItem) (mark : Name) (packet : Packet) (there : NameMap Atom)
    → x.event ≡ landing mark packet
    → packet.to ≡ h.site
    → item.item.load ≡ packet_load mark packet → table.get h.agents packet.agent ≡ Some there
    → Does h (taking x item) (given h packet.agent there mark (output_of packet))

-- and else nothing
abbrev pub IsLost : Type 0
IsLost = (h : Holding) (x : Stamped) (item : StampedItem) (mark : Name) (packet : Packet) → x.event ≡ landing mark packet
    → packet.to ≡ h.site
    → item.item.load ≡ packet_load mark packet → table.get h.agents packet.agent ≡ None → Does h (taking x item) h
