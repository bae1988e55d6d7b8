-- What the calculus sees of agents that stand at a site, and of their calls.
use Rattle.std.specs.Prelude.{◌≡◌, ℕ, List, length, Option, None, Some}
use Rattle.std.specs.FinMap as map
use Rattle.np_syntax.specs.declared.value.Name.{Name}
use Rattle.np_syntax.specs.declared.value.Value.{Value}
use Rattle.np_syntax.specs.declared.event.Event.{Event}
use Rattle.np_syntax.specs.declared.event.Kind.{Kind}
use Rattle.np_syntax.specs.declared.event.Made.{Made}
use Rattle.np_tables.specs.Mapped.{mapped}
use Rattle.np_tables.specs.Names.{NameMap}
use Rattle.np_site_runs.specs.Holdings.{Holding}
use Rattle.np_site_runs.specs.Making.{AreNext}
use Rattle.np_code.specs.Programs.{ProgramTable}
use Rattle.agent_index.specs.declared.wait.Wait.TheVariants as wait
use Rattle.agent_index.specs.Shelves.{Kept}
use Rattle.agent_pool.specs.declared.held.Held.{Held}
use Rattle.agent_pool.specs.declared.held.Held.TheVariants as held
use Rattle.agent_pool.specs.declared.ready.Ready.{Ready}
use Rattle.agent_pool.specs.Pools.{Pool, atoms_of, without_room}
use Rattle.agent_pool.specs.Rows.{event_of}
use Rattle.np_calculus.specs.declared.config.Packet.{Packet}

-- what a site holds where these agents stand there, each under its name, with the number of its next name and what was printed
abbrev pub holding : ProgramTable → ℕ → NameMap Pool → ℕ → List Value → Holding
holding code site agents next said =
    record { site = site; sites = length code.sites; agents = mapped (atoms_of code.processes) agents; next = next; said = said }

-- an agent, if any, but for its room
abbrev pub without_room_if : Option Pool → Option (Name × NameMap (Kept Held))
without_room_if None = None
without_room_if (Some p) = Some (without_room p)

-- the room of agents is not seen
abbrev pub RoomIsUnseen : Type 0
RoomIsUnseen = (code : ProgramTable) (site next : ℕ) (old new : NameMap Pool) (said : List Value)
    → ((q : Name) → without_room_if (map.get new q) ≡ without_room_if (map.get old q))
    → holding code site new next said ≡ holding code site old next said

-- an agent that stands there was called for an event of this kind of a ready, which makes the next names of the site
pub record IsCall (h : Holding) (agents : NameMap Pool) (old new : Pool) (r : Ready) (k : Kind) (made : Made) (e : Event) : Type 0 where
  pub stands : map.get agents old.name ≡ Some old
  pub name : new.name ≡ old.name
  pub kind : r.kind ≡ k
  pub event : e ≡ event_of h.site r made
  pub makes : AreNext h made

-- an agent received a packet under a mark
pub record Received (old new : Pool) (mark : Name) (packet : Packet) : Type 0 where
  pub name : new.name ≡ old.name
  pub agent : old.name ≡ packet.agent
  pub atoms : new.atoms ≡ map.insert old.atoms mark (wait.Gives packet.chan, held.Given packet.chan packet.value packet.tag)
