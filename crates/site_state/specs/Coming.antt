-- What comes to a site (docs/LANGUAGE.md, "Reductions").
use Rattle.std.specs.Prelude.{◌≡◌, ◌<◌, ◌≤◌, MatchOption, Some}
use Rattle.std.specs.FinMap as map
use Rattle.np_syntax.specs.declared.process.Tag.{Tag}
use Rattle.np_syntax.specs.declared.value.Name.{Name}
use Rattle.np_syntax.specs.declared.value.Value.{Value}
use Rattle.np_tables.specs.Names.{NameMap}
use Rattle.np_code.specs.Programs.{ProgramTable}
use Rattle.agent_index.specs.declared.wait.Wait.TheVariants as wait
use Rattle.agent_pool.specs.declared.held.Held.TheVariants as held
use Rattle.agent_pool.specs.Pools.{Pool}
use Rattle.agent_move.specs.declared.load.Load.{Load}
use Rattle.agent_move.specs.declared.load.Load.TheVariants as load
use Rattle.site_agents.specs.Standings.{AreNamed, AreQuiet, Standing as Seated}

-- the agent of a name, if there is one, is sure to find a place for one more atom
pub record HasSpare (agents : NameMap Pool) (q : Name) : Type 0 where
  pub each : (p : Pool) → map.get agents q ≡ Some p → 1 ≤ p.spare

-- what is under way is sure to find a place: an agent among the agents, and a packet at its agent
abbrev pub HasRoomFor : Seated → Load → Type 0
HasRoomFor s (load.Agent agent) = 0 < s.room
HasRoomFor s (load.Packet mark packet) = HasSpare s.agents packet.agent

-- the agents stay under their names, and those that were found to be quiet are so
pub record KeepsSeats (old new : Seated) : Type 0 where
  pub named : AreNamed old.agents → AreNamed new.agents
  pub quiet : (code : ProgramTable) → AreQuiet code old → AreQuiet code new

-- the agent has one more output, under a mark
pub record HasGot (old : NameMap Pool) (to : Name) (before : Pool) (mark chan : Name) (value : Value) (tag : Tag)
    (new : NameMap Pool) : Type 0 where
  pub after : Pool
  pub name : after.name ≡ before.name
  pub atoms : after.atoms ≡ map.insert before.atoms mark (wait.Gives chan, held.Given chan value tag)
  pub agents : new ≡ map.insert old to after

-- the output goes to its agent, if this is there
abbrev pub IsGiven : NameMap Pool → Name → Name → Name → Value → Tag → NameMap Pool → Type 0
IsGiven old to mark chan value tag new = MatchOption (map.get old to) (new ≡ old) (λ before. HasGot old to before mark chan value tag new)

-- what is under way comes: an agent stands there then, and a packet is an output of its agent
abbrev pub HasCome : NameMap Pool → Load → NameMap Pool → Type 0
HasCome old (load.Agent agent) new = new ≡ map.insert old agent.name agent
HasCome old (load.Packet mark packet) new = IsGiven old packet.agent mark packet.chan packet.value packet.tag new
