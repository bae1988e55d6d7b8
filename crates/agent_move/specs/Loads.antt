-- The site for which a load is.
use Rattle.std.specs.Prelude.{ℕ}
use Rattle.agent_move.specs.declared.load.Load.{Load}
use Rattle.agent_move.specs.declared.load.Load.TheVariants as load

-- a packet is for its own site, and an agent for any
abbrev pub site_for : Load → ℕ → ℕ
site_for (load.Agent agent) to = to
site_for (load.Packet mark packet) to = packet.to
