-- What is under way as an item: an agent with its atoms, or a packet.
use Rattle.std.specs.Prelude.{◌≡◌, ℕ, cond, None, Some}
use Rattle.std.specs.FinMap as table
use Rattle.np_syntax.specs.declared.value.Name.{Name}
use Rattle.np_tables.specs.Names.{NameMap, same_name}
use Rattle.np_calculus.specs.declared.config.Atom.{Atom}
use Rattle.np_calculus.specs.declared.config.Packet.{Packet}
use Rattle.np_calculus.specs.declared.config.Place.TheVariants as place
use Rattle.np_calculus.specs.Sight.{Contents}
use Rattle.np_site_runs.specs.merged.Steps.{IsItem}
use Rattle.np_site_runs.specs.merged.Resting.{Brings}

-- an agent under way to a site, with its atoms
abbrev pub agent_load : Name → NameMap Atom → ℕ → Contents
agent_load agent atoms to =
    record { place = λ q. cond (same_name q agent) (Some (place.Way to)) None; atom = table.get atoms; packet = λ m. None }

-- a packet under a mark
abbrev pub packet_load : Name → Packet → Contents
packet_load mark packet = record { place = λ q. None; atom = λ m. None; packet = λ m. cond (same_name m mark) (Some packet) None }

-- each of them brings something to the site to which it goes, and is fit to be under way
abbrev pub AgentIsBrought : Type 0
AgentIsBrought = (agent : Name) (atoms : NameMap Atom) (to : ℕ) → Brings to (agent_load agent atoms to)
    × (((m : Name) (a : Atom) → table.get atoms m ≡ Some a → a.agent ≡ agent) → IsItem (agent_load agent atoms to))

abbrev pub PacketIsBrought : Type 0
PacketIsBrought = (mark : Name) (packet : Packet) → Brings packet.to (packet_load mark packet) × IsItem (packet_load mark packet)
