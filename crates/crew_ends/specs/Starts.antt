-- How the seats of a crew begin: what stands at a site at the low start (docs/TRANSLATION.md, "Starts").
use Rattle.std.specs.Prelude.{◌≡◌, ℕ, Bool, false, List, length, None, Some, slice_get}
use Rattle.np_syntax.specs.declared.value.Name.{Name}
use Rattle.np_tables.specs.Mapped.{mapped}
use Rattle.stamp_history.specs.Histories.{without_events}
use Rattle.np_code.specs.Programs.{ProgramTable, program}
use Rattle.np_code.specs.Trees.{nth}
use Rattle.agent_pool.specs.Pools.{atoms_of}
use Rattle.np_site_runs.specs.Starting.{alone, start_holding, with_if}
use Rattle.site_state.specs.Lines.{AreEmpty}
use Rattle.site_state.specs.Standings.{IsQuiet, KeepsQuiet, SameRecords, Standing, holding_of}
use Rattle.site_turn.specs.declared.seat.Seat.{Seat}

-- if it is to stand there, an agent with one atom is new at the site
pub record HasFirst (code : ProgramTable) (here : Bool) (agent mark : Name) (root : ℕ) (old new : Standing) : Type 0 where
  pub agents : mapped (atoms_of code.processes) new.agents
      ≡ with_if here (mapped (atoms_of code.processes) old.agents) agent (alone agent mark (nth code.processes root))
  pub quiet : KeepsQuiet code old new
  pub same : SameRecords old new
  pub outgoing : new.outgoing ≡ old.outgoing

-- a site that holds what it holds at the low start, and has done nothing
pub record IsFirstSite (code : ProgramTable) (limit k : ℕ) (s : Standing) : Type 0 where
  pub number : s.site ≡ k
  pub holding : holding_of code s ≡ start_holding (program code) k
  pub clock : s.clock ≡ 0
  pub history : s.history ≡ without_events k limit
  -- no agent was found to be quiet
  pub quiet : IsQuiet code s
  pub outgoing : AreEmpty (length code.sites) s.outgoing

-- at its port
pub record IsFirst {P : Type 0} (code : ProgramTable) (limit k : ℕ) (p : P) (s : Seat P) : Type 0 where
  pub site : IsFirstSite code limit k s.site
  pub port : s.port ≡ p
  pub aside : s.aside ≡ None
  pub budget : s.budget ≡ limit
  pub failed : s.failed ≡ false
  pub waits : s.waits ≡ false

-- a seat for each port, in order
pub record AreFirst {P : Type 0} (code : ProgramTable) (budget : ℕ) (ports : List P) (seats : List (Seat P)) : Type 0 where
  pub count : length seats ≡ length ports
  pub each : (k : ℕ) (s : Seat P) → slice_get seats k ≡ Some s → (p : P) × (slice_get ports k ≡ Some p) × IsFirst code budget k p s
