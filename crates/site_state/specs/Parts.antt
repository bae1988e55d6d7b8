-- The parts of an event of a site: what an agent does, and what is recorded (docs/LANGUAGE.md, "Reductions"; docs/HISTORIES.md, "History
-- text").
use Rattle.std.specs.Prelude.{◌≡◌, ◌≤◌, Bool, true, false, ℕ, [], ◌∷◌, Option, Some}
use Rattle.std.specs.FinMap as map
use Rattle.np_syntax.specs.declared.event.Event.{Event}
use Rattle.np_syntax.specs.declared.event.Kind.{Kind}
use Rattle.np_syntax.specs.declared.event.Kind.TheVariants as kind
use Rattle.np_syntax.specs.declared.event.Made.{Made}
use Rattle.np_syntax.specs.declared.event.Made.TheVariants as made
use Rattle.np_syntax.specs.declared.value.Name.{Name}
use Rattle.np_syntax.specs.declared.value.Value.{Value}
use Rattle.np_tables.specs.Names.{NameMap}
use Rattle.np_calculus.specs.declared.config.Packet.{Packet}
use Rattle.np_calculus.specs.declared.config.Place.TheVariants as place
use Rattle.np_calculus.specs.Changes.{Change, put, still}
use Rattle.np_site_runs.specs.Making.{next_after}
use Rattle.np_code.specs.Programs.{ProgramTable}
use Rattle.agent_pool.specs.declared.ready.Ready.{Ready}
use Rattle.agent_pool.specs.Moves.{Births, IsTarget, LocalLeaves}
use Rattle.agent_pool.specs.Pools.{Pool}
use Rattle.agent_pool.specs.Rows.{Reduces}
use Rattle.site_state.specs.Doing.{recorded}
use Rattle.site_state.specs.Lines.{SameLines}
use Rattle.site_state.specs.Standings.{KeepsQuiet, SameRecords, Standing}

-- an event of this kind is one within an agent, which prints nothing
abbrev pub is_inner : Kind → Bool
is_inner kind.Stop = true
is_inner kind.Fork = true
is_inner kind.New = true
is_inner kind.Let = true
is_inner kind.If = true
is_inner kind.Comm = true
is_inner kind.Rep = true
is_inner kind.Open = true
is_inner kind.Lookup = true
is_inner _ = false

-- how many names are made
abbrev pub names_in : Made → ℕ
names_in made.Nothing = 0
names_in (made.One m) = 1
names_in (made.Two m n) = 2

-- whose turn it is may have changed, and no more
pub record IsLooked (code : ProgramTable) (old new : Standing) : Type 0 where
  pub agents : new.agents ≡ old.agents
  pub quiet : KeepsQuiet code old new
  pub same : SameRecords old new
  pub outgoing : new.outgoing ≡ old.outgoing

-- by the event of a ready, which makes these names, the agent of a name went on, and this is all else that it changed
pub record HasReduced (code : ProgramTable) (old : Standing) (name : Name) (r : Ready) (made : Made) (rest : Change)
    (new : Standing) : Type 0 where
  pub before : Pool
  pub after : Pool
  pub stood : map.get old.agents name ≡ Some before
  pub goes : Reduces r.kind code before after r made rest
  pub agents : new.agents ≡ map.insert old.agents name after
  pub quiet : KeepsQuiet code old new
  pub same : SameRecords old new
  pub outgoing : SameLines old.outgoing new.outgoing

-- an event was recorded under a stamp, with the value that it printed, if any
pub record IsNoted (old : Standing) (stamp : ℕ) (e : Event) (value : Option Value) (new : Standing) : Type 0 where
  pub site : new.site ≡ old.site
  pub agents : new.agents ≡ old.agents
  pub quiet : new.quiet ≡ old.quiet
  pub next : new.next ≡ next_after old.next e.made
  pub clock : new.clock ≡ stamp
  pub history : new.history ≡ recorded old.history (record { stamp = stamp; event = e }) value
  pub outgoing : new.outgoing ≡ old.outgoing

-- by the row of a kind the agent of a name went on, and this is all else that it changed
pub record HasGone (code : ProgramTable) (old : NameMap Pool) (name : Name) (k : Kind) (r : Ready) (made : Made) (rest : Change)
    (new : NameMap Pool) : Type 0 where
  pub before : Pool
  pub after : Pool
  pub stood : map.get old name ≡ Some before
  pub goes : Reduces k code before after r made rest
  pub agents : new ≡ map.insert old name after

-- by a migration the agent of a name left for a site
pub record HasDeparted (code : ProgramTable) (old : NameMap Pool) (name : Name) (r : Ready) (to : ℕ) (after : Pool)
    (new : NameMap Pool) : Type 0 where
  pub before : Pool
  pub stood : map.get old name ≡ Some before
  pub named : before.name ≡ name
  pub still_named : after.name ≡ name
  pub goes : Reduces kind.Depart code before after r made.Nothing (record still { places = put before.name (place.Way to) ∷ [] })
  pub agents : new ≡ map.remove old name

-- by the making of an agent the agent of a name went on, and the new one stands there with its first atom
pub record HasBirth (code : ProgramTable) (old : NameMap Pool) (name : Name) (r : Ready) (child mark : Name)
    (new : NameMap Pool) : Type 0 where
  pub before : Pool
  pub after : Pool
  pub born : Pool
  pub stood : map.get old name ≡ Some before
  pub births : Births code before after r child mark born
  pub agents : new ≡ map.insert (map.insert old name after) child born

-- the agent of a name asks for this agent by a location test
pub record Asks (code : ProgramTable) (agents : NameMap Pool) (name : Name) (r : Ready) (target : Name) : Type 0 where
  pub each : (p : Pool) → map.get agents name ≡ Some p → IsTarget code p r target

-- by a location test that finds its agent the agent of a name went on, and the packet is the output for that agent
pub record HasTold (code : ProgramTable) (old : NameMap Pool) (name : Name) (r : Ready) (mark : Name) (packet : Packet)
    (new : NameMap Pool) : Type 0 where
  pub before : Pool
  pub after : Pool
  pub stood : map.get old name ≡ Some before
  pub told : LocalLeaves code before after r mark true (Some packet)
  pub spare : 1 ≤ after.spare
  pub agents : new ≡ map.insert old name after
