-- What is under way is an item of the calculus, and is not nothing.
use Rattle.std.proofs.Common.{◌≡◌, ℕ, Bool, true, false, cond, List, None, Some, IsSome, inl, inr, refl, ap, ◌∙◌}
use Rattle.np_syntax.specs.declared.value.Name.{Name}
use Rattle.np_syntax.specs.declared.process.Proc.{Proc}
use Rattle.np_tables.specs.Names.{same_name}
use Rattle.np_tables.proofs.Tables.{same_name-itself}
use Rattle.np_calculus.specs.declared.config.Packet.{Packet}
use Rattle.np_calculus.specs.declared.config.Place.TheVariants as place
use Rattle.np_site_runs.specs.merged.Steps.{IsItem}
use Rattle.np_site_runs.specs.Loads.{agent_load, packet_load}
use Rattle.agent_pool.specs.Pools.{Pool, atoms_of}
use Rattle.agent_pool.proofs.Maps.{own-agent}
use Rattle.agent_move.specs.declared.load.Load.TheVariants as load
use Rattle.agent_move.specs.Laws.{LoadsAreItems, LoadsAreSomething}

-- what is under way is at no site
never_there : (t : Bool) (to u : ℕ) → cond t (Some (place.Way to)) None ≡ Some (place.At u) → ⊥
never_there true to u h = cc
never_there false to u h = cc

there : {X : Type 0} (t : Bool) (x : X) → t ≡ true → IsSome (cond t (Some x) None)
there true x h = refl
there false x h = absurd cc

itself : (a b : Name) → a ≡ b → same_name a b ≡ true
itself a b h = ap (λ q. same_name q b) h ∙ same_name-itself b

agent_item : (ts : List Proc) (agent : Pool) (to : ℕ) → IsItem (agent_load agent.name (atoms_of ts agent) to)
agent_item ts agent to = record {
  lodged = record { each = λ m a h. there (same_name a.agent agent.name) (place.Way to) (itself a.agent agent.name (own-agent ts agent.name agent.atoms m a h)) };
  away = λ u. record { none = λ q h. never_there (same_name q agent.name) to u h };
}

packet_item : (mark : Name) (packet : Packet) → IsItem (packet_load mark packet)
packet_item mark packet = record { lodged = record { each = λ m a h. absurd cc }; away = λ u. record { none = λ q h. cc } }

pub loads-are-items : LoadsAreItems
loads-are-items ts (load.Agent agent) to = agent_item ts agent to
loads-are-items ts (load.Packet mark packet) to = packet_item mark packet

pub loads-are-something : LoadsAreSomething
loads-are-something ts (load.Agent agent) to = (agent.name, inl (there (same_name agent.name agent.name) (place.Way to) (same_name-itself agent.name)))
loads-are-something ts (load.Packet mark packet) to = (mark, inr (there (same_name mark mark) packet (same_name-itself mark)))
