-- When agents that stand at a site can do nothing, and of which an event is (docs/LANGUAGE.md, "Reductions").
use Rattle.std.specs.Prelude.{◌≡◌, ◌↔◌, ◌+◌, ℕ, Bool, List, is_some, None, Some}
use Rattle.std.specs.FinMap as map
use Rattle.np_syntax.specs.declared.value.Name.{Name}
use Rattle.np_syntax.specs.declared.value.Value.{Value}
use Rattle.np_syntax.specs.declared.event.Event.{Event}
use Rattle.np_syntax.specs.declared.event.Kind.TheVariants as kind
use Rattle.np_tables.specs.Names.{NameMap}
use Rattle.np_calculus.specs.Config.{Config}
use Rattle.np_calculus.specs.Idle.{Idle}
use Rattle.np_calculus.specs.Reductions.{apply}
use Rattle.np_calculus.specs.Rows.{made_of}
use Rattle.np_site_runs.specs.Holdings.{IsPart, name_of}
use Rattle.np_site_runs.specs.Making.{AreNext}
use Rattle.np_code.specs.Programs.{ProgramTable}
use Rattle.agent_pool.specs.Idle.{IsIdle}
use Rattle.agent_pool.specs.Moves.{IsTarget}
use Rattle.agent_pool.specs.Pools.{Pool, atoms_of}
use Rattle.agent_pool.specs.Readies.{IsReady, NothingReady}
use Rattle.agent_pool.specs.Rows.{event_of, ready_of}
use Rattle.site_agents.specs.deeds.Standing.{holding}

-- this holds of each of the agents
abbrev pub OfEachAgent : NameMap Pool → (Pool → Type 0) → Type 0
OfEachAgent agents P = (q : Name) (p : Pool) → map.get agents q ≡ Some p → P p

-- an agent that stands at the site is ready for the event, which is then the one of this ready, with the names that its kind makes
pub record IsOfReady (code : ProgramTable) (site : ℕ) (agents : NameMap Pool) (next : ℕ) (said : List Value) (e : Event) : Type 0 where
  pub name : Name
  pub agent : Pool
  pub stands : map.get agents name ≡ Some agent
  pub ready : IsReady code (atoms_of code.processes agent) (ready_of e)
  -- whether the agent for which it asks stands there
  pub here : Bool
  pub told : (other : Name) → IsTarget code agent (ready_of e) other → is_some (map.get agents other) ≡ here
  pub is : AreNext (holding code site agents next said) e.made
      → e ≡ event_of site (ready_of e) (made_of e.kind here (name_of site next) (name_of site (next + 1)))

module _ (code : ProgramTable) (site : ℕ) (agents : NameMap Pool) (next : ℕ) (said : List Value) where
  -- where none has anything ready, no event but a post is enabled
  abbrev pub NoEventHere : Type 0
  NoEventHere = (c : Config) → IsPart (holding code site agents next said) c
      → OfEachAgent agents (λ p. NothingReady code (atoms_of code.processes p))
      → (e : Event) → (e.kind ≡ kind.Post → ⊥) → apply c e ≡ None

  -- what the site holds rests just where each of them is idle
  abbrev pub IdleByAgents : Type 0
  IdleByAgents = (c : Config) → IsPart (holding code site agents next said) c
      → Idle c ↔ OfEachAgent agents (λ p. IsIdle code.processes p.atoms)

  -- an event that is enabled, but a post, is of one that is ready
  abbrev pub EnabledIsReady : Type 0
  EnabledIsReady = (c after : Config) (e : Event) → IsPart (holding code site agents next said) c → (e.kind ≡ kind.Post → ⊥)
      → apply c e ≡ Some after
      → IsOfReady code site agents next said e
