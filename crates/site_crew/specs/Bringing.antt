-- How an item comes to a site again: it goes from the line of its sender over the link (docs/HISTORIES.md, "History text").
use Rattle.std.specs.Prelude.{◌≡◌, ◌≢◌, ◌<◌, ◌+◌, ℕ, List, [], ◌∷◌, ◌++◌, length, None, Some, slice_get}
use Rattle.np_syntax.specs.declared.event.Event.{Event}
use Rattle.site_links.specs.Words.{only_at}
use Rattle.site_links.specs.declared.port.Port as Port
use Rattle.agent_move.specs.declared.item.Item.{Item}
use Rattle.item_events.specs.Coming.{event_for}
use Rattle.site_state.specs.Doing.{HasRoom, HasTaken}
use Rattle.site_state.specs.Lines.{queue_at}
use Rattle.site_turn.specs.declared.seat.Seat.{Seat}
use Rattle.site_turn.specs.Turns.{IsStrange}

-- this is the last of the list
pub record IsLast {T : Type 0} (xs : List T) (x : T) : Type 0 where
  pub before : ℕ
  pub count : length xs ≡ before + 1
  pub last : slice_get xs before ≡ Some x

-- ---- lines

-- of the items that its site has for the event's site, the first comes by the event
pub record HasDue {P : Type 0} (e : Event) (s : Seat P) : Type 0 where
  pub item : Item
  pub later : List Item
  pub first : queue_at s.site.outgoing e.site ≡ item ∷ later
  pub comes : event_for e.site item.load ≡ e

-- so it is with the seat in this place
pub record IsDueFrom {P : Type 0} (e : Event) (from : ℕ) (xs : List (Seat P)) : Type 0 where
  pub seat : Seat P
  pub at : slice_get xs from ≡ Some seat
  pub due : HasDue e seat

-- so it is with none
pub record NoneIsDue {P : Type 0} (e : Event) (xs : List (Seat P)) : Type 0 where
  pub none : (i : ℕ) (s : Seat P) → slice_get xs i ≡ Some s → HasDue e s → ⊥

-- what comes by the event does not: it is the first in no line for its site, or there is no room for the event
pub data HasNotBrought {P : Type 0} (e : Event) (xs : List (Seat P)) : Type 0 where
  nowhere : NoneIsDue e xs → HasNotBrought e xs
  full : ((s : Seat P) → slice_get xs e.site ≡ Some s → HasRoom s.site → ⊥) → HasNotBrought e xs

-- ---- links

-- it has the same port, the same lines, and the same item set aside
pub record HoldsSame {P : Type 0} (old new : Seat P) : Type 0 where
  pub port : new.port ≡ old.port
  pub aside : new.aside ≡ old.aside
  pub lines : new.site.outgoing ≡ old.site.outgoing

pub record AllHoldSame {P : Type 0} (xs ys : List (Seat P)) : Type 0 where
  pub count : length ys ≡ length xs
  pub each : (i : ℕ) (a b : Seat P) → slice_get xs i ≡ Some a → slice_get ys i ≡ Some b → HoldsSame a b

module _ {P R : Type 0} (g : Port.Ghosts P R Item) where
  -- between the events of a list, what was sent on each link was got, and nothing is set aside
  pub record AreClear (xs : List (Seat P)) : Type 0 where
    pub got : (i j : ℕ) (s t : Seat P) → slice_get xs i ≡ Some s → slice_get xs j ≡ Some t → g.got t.port i ≡ g.sent s.port j
    pub aside : (i : ℕ) (s : Seat P) → slice_get xs i ≡ Some s → s.aside ≡ None

  -- the link from one site to another has as much room as its places that are not taken
  abbrev pub IsFree : List (Seat P) → ℕ → ℕ → Type 0
  IsFree xs i j = (s t : Seat P) → slice_get xs i ≡ Some s → slice_get xs j ≡ Some t → g.known t.port i ≡ [] → g.room s.port j ≡ 0 → ⊥

  -- the first item that its site has for a site went on the link there
  pub record HasSent (to : ℕ) (old new : Seat P) : Type 0 where
    pub item : Item
    pub later : List Item
    pub first : queue_at old.site.outgoing to ≡ item ∷ later
    pub sent : g.sent new.port to ≡ g.sent old.port to ++ item ∷ []
    pub got : (k : ℕ) → g.got new.port k ≡ g.got old.port k
    pub aside : new.aside ≡ old.aside

  -- the seat in a place has sent it, and all links to that site are settled
  pub record HaveSent (from to : ℕ) (xs ys : List (Seat P)) : Type 0 where
    pub item : Item
    pub first : (a : Seat P) → slice_get xs from ≡ Some a → (later : List Item) × (queue_at a.site.outgoing to ≡ item ∷ later)
    pub here : (a b : Seat P) → slice_get xs from ≡ Some a → slice_get ys from ≡ Some b → g.sent b.port to ≡ g.sent a.port to ++ item ∷ []
    pub others : (i k : ℕ) (a b : Seat P) → (i ≡ from → k ≡ to → ⊥) → slice_get xs i ≡ Some a → slice_get ys i ≡ Some b
        → g.sent b.port k ≡ g.sent a.port k
    pub got : (i k : ℕ) (a b : Seat P) → slice_get xs i ≡ Some a → slice_get ys i ≡ Some b → g.got b.port k ≡ g.got a.port k
    pub aside : (i : ℕ) (a b : Seat P) → slice_get xs i ≡ Some a → slice_get ys i ≡ Some b → b.aside ≡ a.aside

  -- the port has got an item from a site
  pub record HasGot (from : ℕ) (item : Item) (old new : Seat P) : Type 0 where
    pub within : from < g.among old.port
    pub got : (k : ℕ) → g.got new.port k ≡ g.got old.port k ++ only_at k from item
    pub sent : (k : ℕ) → g.sent new.port k ≡ g.sent old.port k

  -- the site has accepted an item
  pub record HasTakenOne (old new : Seat P) : Type 0 where
    pub from : ℕ
    pub item : Item
    pub got : HasGot from item old new
    pub aside : new.aside ≡ None

  -- Its site has not recorded the event as its last with this stamp: an item is set aside already, or there is no room, or none is
  -- known to wait; or the one that was taken is for another site, or was sent too late; or its coming is another event, or has another
  -- stamp.
  pub data HasNotTaken (e : Event) (stamp : ℕ) (old new : Seat P) : Type 0 where
    aside : (old.aside ≡ None → ⊥) → HasNotTaken e stamp old new
    full : (HasRoom old.site → ⊥) → HasNotTaken e stamp old new
    none : ((k : ℕ) → g.known old.port k ≡ []) → HasNotTaken e stamp old new
    strange : (from : ℕ) (item : Item) → HasGot from item old new → IsStrange old.site.site item → HasNotTaken e stamp old new
    other : (from : ℕ) (item : Item) → HasGot from item old new → HasTaken old.site new.site item
        → (IsLast new.site.history.events (record { stamp = stamp; event = e }) → ⊥) → HasNotTaken e stamp old new

  -- one of the seats has gone on, and the others are as they were
  pub record OneGoesOn (at : ℕ) (xs ys : List (Seat P)) (Goes : Seat P → Seat P → Type 0) : Type 0 where
    pub old : Seat P
    pub new : Seat P
    pub was : slice_get xs at ≡ Some old
    pub is : slice_get ys at ≡ Some new
    pub count : length ys ≡ length xs
    pub others : (k : ℕ) (s : Seat P) → k ≢ at → slice_get ys k ≡ Some s → slice_get xs k ≡ Some s
    pub goes : Goes old new
