-- What contracts see of a site, and what the calculus sees of it (docs/HISTORIES.md, "History text").
use Rattle.std.specs.Prelude.{◌≡◌, ◌≤◌, ◌+◌, ◌*◌, ℕ, Bool, List, [], length, option_map, refl}
use Rattle.std.specs.Coded.{Coded, code_by, coded×, coded_ℕ, coded_bool, coded_list}
use Rattle.std.specs.FinMap as map
use Rattle.np_syntax.specs.declared.limits.TheConstants.{LARGEST_BUDGET, STAMPS_END}
use Rattle.np_syntax.specs.declared.value.Name.{Name}
use Rattle.np_syntax.specs.contracts.value.Name as name
use Rattle.np_tables.specs.Names.{NameMap}
use Rattle.np_tables.specs.Mapped.{mapped}
use Rattle.stamp_history.specs.Histories.{IsAboveLast, Recorded, recorded_code, without_events}
use Rattle.np_site_runs.specs.Holdings.{Holding}
use Rattle.np_code.specs.Programs.{ProgramTable}
use Rattle.agent_pool.specs.Pools.{Pool, pool_code, atoms_of, without_room}
use Rattle.agent_move.specs.declared.item.Item.{Item}
use Rattle.site_agents.specs.Standings.{AreNamed, AreQuiet, Standing as Seated}
use Rattle.site_state.specs.Lines.{Waiting, waiting_code, AreEmpty, SameLines, IsTaken, queue_at}

-- its number, its agents by their names, for each whether it was found to be quiet, the number of the next name that it makes, its
-- clock, what it made and printed, and what it has to put on its links, by the site that it is for
pub record Standing : Type 0 where
  pub site : ℕ
  pub agents : NameMap Pool
  pub quiet : NameMap Bool
  pub next : ℕ
  pub clock : ℕ
  pub history : Recorded
  pub outgoing : List Waiting

abbrev pub standing_code : Coded Standing
standing_code =
    code_by (ℕ × (NameMap Pool × (NameMap Bool × (ℕ × (ℕ × (Recorded × List Waiting))))))
    (coded× coded_ℕ (coded× (map.code name.the_row.coded pool_code) (coded× (map.code name.the_row.coded coded_bool)
    (coded× coded_ℕ (coded× coded_ℕ (coded× recorded_code (coded_list waiting_code)))))))
    (λ s. (s.site, (s.agents, (s.quiet, (s.next, (s.clock, (s.history, s.outgoing)))))))
    (λ p. record {
      site = p.0;
      agents = p.1.0;
      quiet = p.1.1.0;
      next = p.1.1.1.0;
      clock = p.1.1.1.1.0;
      history = p.1.1.1.1.1.0;
      outgoing = p.1.1.1.1.1.1;
    }) (λ _. refl)

-- what each site keeps to
pub record IsStanding (s : Standing) : Type 0 where
  pub site : s.history.site ≡ s.site
  pub budget : s.history.budget ≤ LARGEST_BUDGET
  pub named : AreNamed s.agents
  pub names : s.next ≤ 2 * length s.history.events
  pub clock : s.clock ≤ STAMPS_END + length s.history.events
  pub last : IsAboveLast s.history.events (s.clock + 1)

-- what the calculus sees of it
abbrev pub holding_of : ProgramTable → Standing → Holding
holding_of code s =
    record {
      site = s.site;
      sites = length code.sites;
      agents = mapped (atoms_of code.processes) s.agents;
      next = s.next;
      said = s.history.said;
    }

-- the agents, with room for some more
abbrev pub seated : Standing → ℕ → Seated
seated s room = record { agents = s.agents; quiet = s.quiet; room = room; keys = [] }

-- each agent that was found to be quiet can do nothing by this code
abbrev pub IsQuiet : ProgramTable → Standing → Type 0
IsQuiet code s = AreQuiet code (seated s 0)

-- so it is then, if it was
abbrev pub KeepsQuiet : ProgramTable → Standing → Standing → Type 0
KeepsQuiet code old new = IsQuiet code old → IsQuiet code new

-- the same agents, but for their room
pub record SameAgents (old new : NameMap Pool) : Type 0 where
  pub each : (q : Name) → option_map without_room (map.get new q) ≡ option_map without_room (map.get old q)

-- nothing that contracts see has changed, but for the room
pub record SameSite (old new : Standing) : Type 0 where
  pub site : new.site ≡ old.site
  pub agents : SameAgents old.agents new.agents
  pub next : new.next ≡ old.next
  pub clock : new.clock ≡ old.clock
  pub history : new.history ≡ old.history
  pub outgoing : SameLines old.outgoing new.outgoing

-- and what was found to be quiet by this code, or by any, is so
pub record Stays (code : ProgramTable) (old new : Standing) : Type 0 where
  pub same : SameSite old new
  pub quiet : KeepsQuiet code old new

pub record StaysForAll (old new : Standing) : Type 0 where
  pub same : SameSite old new
  pub quiet : (code : ProgramTable) → KeepsQuiet code old new

-- it has no agents and nothing to put on its links, and has done nothing
pub record IsNew (site sites budget : ℕ) (s : Standing) : Type 0 where
  pub number : s.site ≡ site
  pub agents : s.agents ≡ map.empty
  pub quiet : s.quiet ≡ map.empty
  pub next : s.next ≡ 0
  pub clock : s.clock ≡ 0
  pub history : s.history ≡ without_events site budget
  pub outgoing : AreEmpty sites s.outgoing

-- all but the agents and what it has to put on its links
pub record SameRecords (old new : Standing) : Type 0 where
  pub site : new.site ≡ old.site
  pub next : new.next ≡ old.next
  pub clock : new.clock ≡ old.clock
  pub history : new.history ≡ old.history

-- the clock is at this stamp, and all else is the same
abbrev pub with_clock : Standing → ℕ → Standing
with_clock s stamp = record s { clock = stamp }

-- one more agent stands there
pub record IsSettled (old : Standing) (agent : Pool) (new : Standing) : Type 0 where
  pub agents : new.agents ≡ map.insert old.agents agent.name agent
  pub quiet : (code : ProgramTable) → KeepsQuiet code old new
  pub same : SameRecords old new
  pub outgoing : new.outgoing ≡ old.outgoing

-- nothing is to be put on the link to a site
pub record NoneOut (to : ℕ) (old new : Standing) : Type 0 where
  pub none : queue_at old.outgoing to ≡ []
  pub same : StaysForAll old new

-- the item is the first to be put on the link to a site, and all else stays
pub record IsOut (to : ℕ) (item : Item) (old new : Standing) : Type 0 where
  pub agents : new.agents ≡ old.agents
  pub quiet : new.quiet ≡ old.quiet
  pub same : SameRecords old new
  pub outgoing : IsTaken old.outgoing to item new.outgoing
