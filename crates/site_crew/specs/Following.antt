-- What seats are while the events of a list are done again (docs/HISTORIES.md, "History text").
use Rattle.std.specs.Prelude.{◌≡◌, ◌≢◌, ◌<◌, ◌≤◌, ◌+◌, ℕ, true, false, ◌-◌, ◌⊎◌, max, List, [], ◌∷◌, ◌++◌, length, take, Some, slice_get}
use Rattle.np_syntax.specs.declared.event.Event.{Event}
use Rattle.np_syntax.specs.declared.event.Kind.TheVariants as kind
use Rattle.site_links.specs.declared.port.Port as Port
use Rattle.np_calculus.specs.NotEnabled.{by_atom}
use Rattle.np_code.specs.Programs.{ProgramTable}
use Rattle.run_save.specs.following.Following.{AreOf}
use Rattle.agent_move.specs.declared.item.Item.{Item}
use Rattle.site_agents.specs.Standings.{NoneCanDo}
use Rattle.agent_pool.specs.Rows.{ready_of}
use Rattle.site_state.specs.Doing.{HasDoneAsked, HasRoom, event_at}
use Rattle.site_state.specs.Standings.{Stays, with_clock}
use Rattle.site_turn.specs.declared.seat.Seat.{Seat}
use Rattle.site_turn.specs.Turns.{Turned}
use Rattle.site_crew.specs.Bringing.{AreClear, HasNotBrought}
use Rattle.site_crew.specs.Clocks.{AreSteady, low_count}
use Rattle.site_crew.specs.Crews.{NoneFailed}
use Rattle.site_crew.specs.Links.{IsSettledTo}
use Rattle.site_crew.specs.Seats.{AllGrow, AreFresh, AreSeats, AreWhole, Stand, histories}

-- ---- one seat

-- its site has recorded the event as its last, with this stamp, which its clock shows then
pub record Adds {P : Type 0} (e : Event) (stamp : ℕ) (old new : Seat P) : Type 0 where
  pub events : new.site.history.events ≡ old.site.history.events ++ record { stamp = stamp; event = e } ∷ []
  pub clock : new.site.clock ≡ stamp
  pub sound : old.failed ≡ false → new.failed ≡ false

-- its site has recorded some event as its last, with the stamp that its clock shows then
pub record HasAccepted {P : Type 0} (old new : Seat P) : Type 0 where
  pub event : Event
  pub events : new.site.history.events ≡ old.site.history.events ++ record { stamp = new.site.clock; event = event } ∷ []

-- it has made no event, and its clock has gone on to no more than this stamp
pub record Rests {P : Type 0} (late : ℕ) (old new : Seat P) : Type 0 where
  pub history : new.site.history ≡ old.site.history
  pub clock : new.site.clock ≤ max old.site.clock late
  pub later : old.site.clock ≤ new.site.clock
  pub failed : new.failed ≡ old.failed

-- Its site has not done the event of its own: there was no room for it, or no agent there can do it by its marks, and nothing was done;
-- or an agent has done what the event asks, and with the names that it made this is another event.
pub data HasNotRedone {P : Type 0} (code : ProgramTable) (e : Event) (stamp : ℕ) (old new : Seat P) : Type 0 where
  full : (HasRoom old.site → ⊥) → new ≡ old → HasNotRedone code e stamp old new
  unable : NoneCanDo code old.site.agents (ready_of e) → Stays code old.site new.site → HasNotRedone code e stamp old new
  differs : (done : HasDoneAsked code (ready_of e) stamp old.site new.site) → event_at code old.site done.agent (ready_of e) ≢ e
      → HasNotRedone code e stamp old new

-- ---- all seats

pub record AllRest {P : Type 0} (late : ℕ) (xs ys : List (Seat P)) : Type 0 where
  pub count : length ys ≡ length xs
  pub each : (i : ℕ) (a b : Seat P) → slice_get xs i ≡ Some a → slice_get ys i ≡ Some b → Rests late a b

-- the site of the event has recorded it, and the others have made no event
pub record HaveAdded {P : Type 0} (e : Event) (stamp late : ℕ) (xs ys : List (Seat P)) : Type 0 where
  pub count : length ys ≡ length xs
  pub at : e.site < length xs
  pub there : (a b : Seat P) → slice_get xs e.site ≡ Some a → slice_get ys e.site ≡ Some b → Adds e stamp a b
  pub others : (i : ℕ) (a b : Seat P) → i ≢ e.site → slice_get xs i ≡ Some a → slice_get ys i ≡ Some b → Rests late a b

-- the site of the event, which is of its own, has not done it
pub record HaveNotRedone {P : Type 0} (code : ProgramTable) (e : Event) (stamp : ℕ) (xs ys : List (Seat P)) : Type 0 where
  pub there : (a b : Seat P) → slice_get xs e.site ≡ Some a → slice_get ys e.site ≡ Some b → HasNotRedone code e stamp a b

-- the event was not done: no seat is its site's, or it is the coming of an item, and this item has not come, or it is a post, or its
-- site has not done it of its own
pub data HaveMissed {P : Type 0} (code : ProgramTable) (e : Event) (stamp : ℕ) (xs ys : List (Seat P)) : Type 0 where
  nowhere : length xs ≤ e.site → HaveMissed code e stamp xs ys
  coming : by_atom e.kind ≡ false → HasNotBrought e xs → HaveMissed code e stamp xs ys
  posts : e.kind ≡ kind.Post → HaveMissed code e stamp xs ys
  own : by_atom e.kind ≡ true → (e.kind ≡ kind.Post → ⊥) → HaveNotRedone code e stamp xs ys → HaveMissed code e stamp xs ys

-- the event in this place of a list was not done after those before it
pub record HaveMissedAt {P : Type 0} (code : ProgramTable) (events : List Event) (k : ℕ) (xs ys : List (Seat P)) : Type 0 where
  pub event : Event
  pub at : slice_get events k ≡ Some event
  pub missed : HaveMissed code event (k + 1) xs ys

-- where no site has made an event, the stamp is 0; and so many events have stamps that are no greater
pub record IsNotEarly {P : Type 0} (stamp : ℕ) (xs : List (Seat P)) : Type 0 where
  pub none : ((i : ℕ) (s : Seat P) → slice_get xs i ≡ Some s → s.site.history.events ≡ []) → stamp ≡ 0
  pub few : stamp ≤ low_count stamp (histories xs)

-- each clock is at no less than this stamp
pub record AreLate {P : Type 0} (stamp : ℕ) (xs : List (Seat P)) : Type 0 where
  pub each : (i : ℕ) (s : Seat P) → slice_get xs i ≡ Some s → stamp ≤ s.site.clock

-- each clock is at this stamp
pub record AreAt {P : Type 0} (stamp : ℕ) (xs : List (Seat P)) : Type 0 where
  pub each : (i : ℕ) (s : Seat P) → slice_get xs i ≡ Some s → s.site.clock ≡ stamp

-- the seat with its clock at a stamp
abbrev pub at_clock : {P : Type 0} → Seat P → ℕ → Seat P
at_clock s clock =
    record { site = with_clock s.site clock; port = s.port; aside = s.aside; budget = s.budget; failed = s.failed; waits = s.waits }

module _ {P R : Type 0} (g : Port.Ghosts P R Item) (code : ProgramTable) where
  -- the seat at a later time, from its clock on, or from where the clock was set to be at this stamp next
  abbrev pub TurnsBy : ℕ → Seat P → Seat P → Type 0
  TurnsBy stamp old new = Turned g code old new ⊎ Turned g code (at_clock old (stamp - 1)) new

  -- the seat in a place at a later time, of which no link but those to one site has changed
  pub record Moves (i to : ℕ) (old new : Seat P) : Type 0 where
    pub turned : Turned g code old new
    pub sent : (k : ℕ) → k ≢ to → g.sent new.port k ≡ g.sent old.port k
    pub room : (k : ℕ) → k ≢ to → g.room old.port k ≤ g.room new.port k
    pub got : i ≢ to → (k : ℕ) → (g.got new.port k ≡ g.got old.port k) × (g.known new.port k ≡ g.known old.port k)
    pub waits : i ≢ to → new.waits ≡ old.waits

  -- between rounds, but that the links to one site need not be settled
  pub record StandBut (budget to : ℕ) (xs : List (Seat P)) : Type 0 where
    pub seats : AreSeats g code budget xs
    pub settled : (j : ℕ) → j < length xs → j ≢ to → IsSettledTo g xs j
    pub whole : AreWhole xs
    pub fresh : AreFresh xs
    pub steady : AreSteady g code xs

  -- between rounds, where the events of the list were done, and no others
  pub record HaveDone (budget : ℕ) (events : List Event) (xs : List (Seat P)) : Type 0 where
    pub stand : Stand g code budget xs
    pub of : AreOf events (histories xs)
    pub clocks : (i : ℕ) (s : Seat P) → slice_get xs i ≡ Some s → s.site.clock ≤ length events
    pub sound : NoneFailed xs

  -- the events of the list were done up to some place, and the one in that place was not
  pub record StopsAt (budget : ℕ) (events : List Event) (xs : List (Seat P)) : Type 0 where
    pub place : ℕ
    pub mid : List (Seat P)
    pub done : HaveDone budget (take place events) mid
    pub clear : AreClear g mid
    pub grow : AllGrow (histories mid) (histories xs)
    pub missed : HaveMissedAt code events place mid xs
