-- What contracts see of the agents at a site.
use Rattle.std.specs.Prelude.{◌≡◌, ℕ, Bool, true, ◌||◌, not, List, Some, refl}
use Rattle.std.specs.Coded.{Coded, code_by, coded×, coded_ℕ, coded_bool, coded_list}
use Rattle.std.specs.FinMap as map
use Rattle.np_syntax.specs.declared.value.Name.{Name}
use Rattle.np_syntax.specs.contracts.value.Name as name
use Rattle.np_syntax.specs.declared.process.Proc.{Proc}
use Rattle.np_tables.specs.Names.{NameMap}
use Rattle.np_tables.specs.Mapped.{mapped}
use Rattle.np_code.specs.Programs.{ProgramTable}
use Rattle.agent_pool.specs.Idle.{IsIdle}
use Rattle.agent_pool.specs.Pools.{Pool, pool_code, atoms_of}
use Rattle.agent_pool.specs.Readies.{IsReady, NothingReady}
use Rattle.agent_pool.specs.declared.ready.Ready.{Ready}
use Rattle.site_agents.specs.declared.seat.Seat.{Seat}

-- the agents by their names, for each whether it was found to be quiet, for how many more there is room for sure, and the names in the
-- order of a walk
pub record Standing : Type 0 where
  pub agents : NameMap Pool
  pub quiet : NameMap Bool
  pub room : ℕ
  pub keys : List Name

abbrev pub standing_code : Coded Standing
standing_code =
    code_by (NameMap Pool × (NameMap Bool × (ℕ × List Name)))
    (coded× (map.code name.the_row.coded pool_code)
    (coded× (map.code name.the_row.coded coded_bool) (coded× coded_ℕ (coded_list name.the_row.coded))))
    (λ s. (s.agents, (s.quiet, (s.room, s.keys)))) (λ p. record { agents = p.0; quiet = p.1.0; room = p.1.1.0; keys = p.1.1.1 }) (λ _. refl)

-- an agent with no turn was found to be quiet
abbrev pub is_quiet : Seat → Bool
is_quiet s = not (s.queued || s.doubted)

abbrev pub agent_of : Seat → Pool
agent_of s = s.agent

abbrev pub agents_of : NameMap Seat → NameMap Pool
agents_of seats = mapped agent_of seats

abbrev pub quiet_of : NameMap Seat → NameMap Bool
quiet_of seats = mapped is_quiet seats

-- each agent stands under its own name
pub record AreNamed (agents : NameMap Pool) : Type 0 where
  pub each : (q : Name) (p : Pool) → map.get agents q ≡ Some p → p.name ≡ q

-- the agent can do nothing
abbrev pub CanNothing : ProgramTable → Pool → Type 0
CanNothing code p = NothingReady code (atoms_of code.processes p)

-- each agent that was found to be quiet can do nothing by this code
pub record AreQuiet (code : ProgramTable) (s : Standing) : Type 0 where
  pub each : (q : Name) (p : Pool) → map.get s.quiet q ≡ Some true → map.get s.agents q ≡ Some p → CanNothing code p

-- an agent of this name stands here and can do this
pub record CanDo (code : ProgramTable) (agents : NameMap Pool) (q : Name) (r : Ready) : Type 0 where
  pub agent : Pool
  pub here : map.get agents q ≡ Some agent
  pub ready : IsReady code (atoms_of code.processes agent) r

-- no agent can do this
pub record NoneCanDo (code : ProgramTable) (agents : NameMap Pool) (r : Ready) : Type 0 where
  pub each : (q : Name) → CanDo code agents q r → ⊥

-- no agent can do anything
pub record NoneCan (code : ProgramTable) (agents : NameMap Pool) : Type 0 where
  pub each : (q : Name) (p : Pool) → map.get agents q ≡ Some p → CanNothing code p

-- the agent of a name is idle, if there is one
abbrev pub IdleAt : List Proc → NameMap Pool → Name → Type 0
IdleAt ts agents q = (p : Pool) → map.get agents q ≡ Some p → IsIdle ts p.atoms

-- each agent is idle
pub record AreIdle (ts : List Proc) (agents : NameMap Pool) : Type 0 where
  pub each : (q : Name) → IdleAt ts agents q
