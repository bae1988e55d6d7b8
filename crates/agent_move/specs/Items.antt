-- What items are to the calculus (docs/LANGUAGE.md, "Configurations").
use Rattle.std.specs.Prelude.{ℕ, List}
use Rattle.np_syntax.specs.declared.process.Proc.{Proc}
use Rattle.np_calculus.specs.Sight.{Contents}
use Rattle.np_site_runs.specs.merged.Deeds.{StampedItem}
use Rattle.np_site_runs.specs.Loads.{agent_load, packet_load}
use Rattle.np_code.specs.Programs.{ProgramTable}
use Rattle.agent_pool.specs.Pools.{atoms_of}
use Rattle.agent_move.specs.declared.item.Item.{Item}
use Rattle.agent_move.specs.declared.load.Load.{Load}
use Rattle.agent_move.specs.declared.load.Load.TheVariants as load

-- what a load under way to a site is, where the processes of the code's nodes stand in a list
abbrev pub contents_of : List Proc → Load → ℕ → Contents
contents_of ts (load.Agent agent) to = agent_load agent.name (atoms_of ts agent) to
contents_of ts (load.Packet mark packet) to = packet_load mark packet

abbrev pub item_of : ProgramTable → Item → StampedItem
item_of code x =
    record { stamp = x.stamp; item = record { sender = x.from; receiver = x.to; load = contents_of code.processes x.load x.to } }
