-- What leaves an agent by its events: the agent itself, a new agent, a message (docs/LANGUAGE.md, "Reductions").
use Rattle.std.specs.Prelude.{◌≡◌, ℕ, Bool, true, false, [], ◌∷◌, Option, None, Some}
use Rattle.std.specs.FinMap as map
use Rattle.np_syntax.specs.declared.value.Name.{Name}
use Rattle.np_syntax.specs.declared.event.Kind.TheVariants as kind
use Rattle.np_syntax.specs.declared.event.Made.TheVariants as made
use Rattle.np_syntax.specs.Options.{◌>>=◌}
use Rattle.np_calculus.specs.declared.config.Packet.{Packet}
use Rattle.np_calculus.specs.declared.config.Place.TheVariants as place
use Rattle.np_calculus.specs.Changes.{put, cut, still}
use Rattle.np_calculus.specs.Rows.{asked_of, change_in, leaves_outside, output_of}
use Rattle.np_code.specs.Programs.{ProgramTable}
use Rattle.agent_pool.specs.declared.held.Held.{Held}
use Rattle.agent_pool.specs.declared.ready.Ready.{Ready}
use Rattle.agent_pool.specs.Held.{atom_of, wait_of}
use Rattle.agent_pool.specs.Pools.{Pool, atoms_of}
use Rattle.agent_pool.specs.Rows.{own_sight, event_of, GoesOnAs, Reduces}

-- the agent leaves for a site, and the acting atom goes on as this one
abbrev pub IsDepart : ProgramTable → Pool → Ready → Held → ℕ → Type 0
IsDepart code p r h to =
    (site : ℕ) → change_in kind.Depart (own_sight code p false) (event_of site r made.Nothing)
    ≡ Some (record still { places = put p.name (place.Way to) ∷ []; atoms = put r.actor (atom_of code.processes p.name h) ∷ [] })

-- the acting atom becomes this packet
abbrev pub IsSent : ProgramTable → Pool → Ready → Packet → Type 0
IsSent code p r packet =
    (site : ℕ) → change_in kind.Send (own_sight code p false) (event_of site r made.Nothing)
    ≡ Some (record still { atoms = cut r.actor ∷ []; packets = put r.actor packet ∷ [] })

-- the acting atom asks for this agent
abbrev pub IsTarget : ProgramTable → Pool → Ready → Name → Type 0
IsTarget code p r agent = (map.get (atoms_of code.processes p) r.actor >>= asked_of) ≡ Some agent

-- a location test that finds its agent: the acting atom goes on as this one, and the output stands under a mark
abbrev pub IsTold : ProgramTable → Pool → Ready → Name → Held → Packet → Type 0
IsTold code p r mark h packet =
    (site : ℕ) → change_in kind.Local (own_sight code p true) (event_of site r (made.One mark))
    ≡ Some (record still { atoms = put mark (output_of packet) ∷ put r.actor (atom_of code.processes p.name h) ∷ [] })

-- one that does not
abbrev pub IsAway : ProgramTable → Pool → Ready → Held → Type 0
IsAway code p r h = GoesOnAs kind.Local code p r made.Nothing r.actor h

-- by a location test the agent goes on: where it finds its agent, the packet is its output in that agent
abbrev pub LocalLeaves : ProgramTable → Pool → Pool → Ready → Name → Bool → Option Packet → Type 0
LocalLeaves code old new r mark true (Some packet) =
    (site : ℕ) → (change_in kind.Local (own_sight code old true) (event_of site r (made.One mark))
    >>= leaves_outside (atoms_of code.processes old))
    ≡ Some (record still { atoms = put mark (output_of packet) ∷ [] }, atoms_of code.processes new)
LocalLeaves code old new r mark false None = Reduces kind.Local code old new r made.Nothing still
LocalLeaves code old new r mark _ _ = ⊥

-- the making of an agent: its first atom, and what the acting atom goes on as
abbrev pub IsSplit : ProgramTable → Pool → Ready → Name → Name → Held → Held → Type 0
IsSplit code p r agent mark body rest =
    (site : ℕ) → change_in kind.Agent (own_sight code p false) (event_of site r (made.Two agent mark))
    ≡ Some (record still {
      places = put agent (place.At site) ∷ [];
      atoms = put mark (atom_of code.processes agent body) ∷ put r.actor (atom_of code.processes p.name rest) ∷ [];
    })

-- by the making of an agent the agent goes on, and the child is the new agent with its first atom
pub record Births (code : ProgramTable) (old new : Pool) (r : Ready) (agent mark : Name) (child : Pool) : Type 0 where
  pub body : Held
  pub row : (site : ℕ) → (change_in kind.Agent (own_sight code old false) (event_of site r (made.Two agent mark))
      >>= leaves_outside (atoms_of code.processes old))
      ≡ Some (
        record still {
          places = put agent (place.At site) ∷ [];
          atoms = put mark (atom_of code.processes agent body) ∷ [];
        },
        atoms_of code.processes new,
      )
  pub name : child.name ≡ agent
  pub atoms : child.atoms ≡ map.insert map.empty mark (wait_of code.processes body, body)
