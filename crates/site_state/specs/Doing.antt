-- What an event does to a site (docs/HISTORIES.md, "History text").
use Rattle.std.specs.Prelude.{◌≡◌, ◌<◌, ◌+◌, ◌-◌, ℕ, Bool, true, false, is_some, List, length, option_map, Option, None, Some, IfSome}
use Rattle.std.specs.FinMap as map
use Rattle.np_syntax.specs.declared.event.Event.{Event}
use Rattle.np_syntax.specs.declared.value.Name.{Name}
use Rattle.np_syntax.specs.declared.value.Value.{Value}
use Rattle.np_syntax.specs.Options.{◌>>=◌}
use Rattle.np_tables.specs.Names.{NameMap}
use Rattle.stamp_history.specs.declared.stamped.Stamped.{Stamped}
use Rattle.stamp_history.specs.Histories.{Recorded, with_event, with_said}
use Rattle.np_site_runs.specs.merged.Deeds.{Deed, ticked}
use Rattle.np_site_runs.specs.Holdings.{Does, name_of}
use Rattle.np_code.specs.Programs.{ProgramTable}
use Rattle.agent_pool.specs.declared.ready.Ready.{Ready}
use Rattle.np_calculus.specs.Rows.{asked_of, made_of}
use Rattle.agent_pool.specs.Pools.{Pool, atoms_of}
use Rattle.agent_pool.specs.Rows.{event_of, ready_of}
use Rattle.agent_move.specs.declared.item.Item.{Item}
use Rattle.agent_move.specs.Items.{item_of}
use Rattle.item_events.specs.Coming.{event_for}
use Rattle.site_state.specs.declared.stepping.Stepped.{Stepped}
use Rattle.site_state.specs.declared.stepping.Stepped.TheVariants as stepped
use Rattle.site_state.specs.Lines.{Waiting, IsPut, SameLines}
use Rattle.site_agents.specs.Standings.{CanDo, NoneCan, NoneCanDo}
use Rattle.site_state.specs.Standings.{KeepsQuiet, Standing, Stays, holding_of, with_clock}

-- an event with the item that it takes and the one that it puts out
abbrev pub deed_of : ProgramTable → Stamped → Option Item → Option Item → Deed
deed_of code e taken out = record { event = e; taken = option_map (item_of code) taken; put = option_map (item_of code) out }

-- the history with one more event, and with the value that it printed, if any
abbrev pub recorded : Recorded → Stamped → Option Value → Recorded
recorded h e None = with_event h e
recorded h e (Some v) = with_said (with_event h e) v

-- an item that is put out stands behind all others for its site
abbrev pub ArePut : List Waiting → Option Item → List Waiting → Type 0
ArePut old None new = SameLines old new
ArePut old (Some x) new = IsPut old x.to x new

-- an item that the site has put out by its last event
pub record IsSent (s : Standing) (x : Item) : Type 0 where
  pub stamp : x.stamp ≡ s.clock
  pub from : x.from ≡ s.site
  pub to : x.to < length s.outgoing

-- what an event did to a site, with the item that it took and the one that it put out
pub record Did (code : ProgramTable) (old new : Standing) (event : Event) (taken out : Option Item) : Type 0 where
  pub site : new.site ≡ old.site
  pub at : event.site ≡ old.site
  pub clock : new.clock ≡ ticked old.clock (option_map (item_of code) taken)
  -- the value that it printed, if any
  pub value : Option Value
  pub history : new.history ≡ recorded old.history (record { stamp = new.clock; event = event }) value
  pub outgoing : ArePut old.outgoing out new.outgoing
  pub put : IfSome out (IsSent new)
  pub quiet : KeepsQuiet code old new
  pub does : Does (holding_of code old) (deed_of code (record { stamp = new.clock; event = event }) taken out) (holding_of code new)

-- whether the agent is here for which the acting atom of another asks
abbrev pub finds : ProgramTable → NameMap Pool → Name → Ready → Bool
finds code agents name r =
    is_some (map.get agents name >>= λ p. map.get (atoms_of code.processes p) r.actor >>= asked_of >>= map.get agents)

-- the event of the agent of a name that does this at the site: it makes the site's next names
abbrev pub event_at : ProgramTable → Standing → Name → Ready → Event
event_at code s name r =
    event_of s.site r (made_of r.kind (finds code s.agents name r) (name_of s.site s.next) (name_of s.site (s.next + 1)))

-- an agent that stands here can do the event, and whichever does it, it is this very event
pub record IsPossible (code : ProgramTable) (s : Standing) (event : Event) : Type 0 where
  pub agent : Name
  pub can : CanDo code s.agents agent (ready_of event)
  pub is : (name : Name) → CanDo code s.agents name (ready_of event) → event ≡ event_at code s name (ready_of event)

-- the site did this event of its own
pub record HasDoneEvent (code : ProgramTable) (old new : Standing) (event : Event) : Type 0 where
  pub out : Option Item
  pub did : Did code old new event None out

-- the site did an event of its own
pub record HasDone (code : ProgramTable) (old new : Standing) : Type 0 where
  pub event : Event
  pub out : Option Item
  pub did : Did code old new event None out

-- there is room for one more event
abbrev pub HasRoom : Standing → Type 0
HasRoom s = length s.history.events < s.history.budget

-- by a step an event is done, or there is none, or no room for it
abbrev pub IsStepped : ProgramTable → Standing → Standing → Stepped → Type 0
IsStepped code old new stepped.Did = HasRoom old × HasDone code old new
IsStepped code old new stepped.Quiet = HasRoom old × Stays code old new × NoneCan code old.agents
IsStepped code old new stepped.Spent = (length old.history.events ≡ old.history.budget) × Stays code old new

-- the same, where it is not known whether there is one that was not found
abbrev pub IsTried : ProgramTable → Standing → Standing → Stepped → Type 0
IsTried code old new stepped.Did = HasRoom old × HasDone code old new
IsTried code old new stepped.Quiet = HasRoom old × Stays code old new
IsTried code old new stepped.Spent = (length old.history.events ≡ old.history.budget) × Stays code old new

-- at this stamp an agent that stands here has done what is asked, as one event of the site
pub record HasDoneAsked (code : ProgramTable) (r : Ready) (stamp : ℕ) (old new : Standing) : Type 0 where
  pub agent : Name
  pub can : CanDo code old.agents agent r
  pub done : HasDoneEvent code (with_clock old (stamp - 1)) new (event_at code old agent r)
  pub clock : new.clock ≡ stamp

-- an agent has done what is asked, or none that stands here can
abbrev pub IsRedone : ProgramTable → Ready → ℕ → Standing → Standing → Bool → Type 0
IsRedone code r stamp old new true = HasDoneAsked code r stamp old new
IsRedone code r stamp old new false = Stays code old new × NoneCanDo code old.agents r

-- an item was taken by the event of its coming, whatever the code of as many sites
pub record HasTaken (old new : Standing) (x : Item) : Type 0 where
  pub event : Event
  pub coming : event ≡ event_for old.site x.load
  pub did : (code : ProgramTable) → length code.sites ≡ length old.outgoing → Did code old new event (Some x) None
