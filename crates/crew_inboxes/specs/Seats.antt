-- Inboxes and the ways into them, while they are made.
use Rattle.std.specs.Prelude.{◌≡◌, ℕ, ◌+◌, ◌<◌, ◌≤◌, false, List, [], ◌∷◌, ◌++◌, length, Some, slice_get}
use Rattle.crossbeam_queue.specs.Passes.{view}
use Rattle.site_links.specs.declared.places.TheConstants.{PLACES}
use Rattle.agent_move.specs.declared.item.Item.{Item}
use Rattle.site_inboxes.specs.Fresh.{IsUnusedView, IsFreshSender, IsSplitOff}
use Rattle.site_inboxes.specs.declared.ends.Outlet.{Outlet}
use Rattle.crew_inboxes.specs.declared.making.Seat.{Seat}
use Rattle.crew_inboxes.specs.declared.inboxes.Inboxes.{Inboxes}

-- a way of a site into the inbox of a seat, into which nothing was put
pub record IsFreshWay (sites number : ℕ) (to : Seat) (way : Outlet Item) : Type 0 where
  pub joined : way.pass.table_id ≡ to.inbox.pass.table_id
  pub sender : IsFreshSender sites number (view way.pass)
  pub all_free : way.spare ≡ PLACES
  pub none_fresh : way.fresh ≡ 0
  pub none_put : way.has_put ≡ false

-- the inbox of a seat, with so many ways made
abbrev pub HasMade : ℕ → ℕ → Seat → Type 0
HasMade sites made seat = IsUnusedView sites made (view seat.inbox.pass)

-- one seat more, before there is a way
pub record SeatAdded (n : ℕ) (before after : List Seat) : Type 0 where
  pub made : Seat
  pub is : after ≡ before ++ made ∷ []
  pub unused : HasMade n 0 made
  pub none : made.ways.items ≡ []

-- m seats, before there is a way
pub record Begun (n m : ℕ) (seats : List Seat) : Type 0 where
  pub count : length seats ≡ m
  pub unused : (i : ℕ) (s : Seat) → slice_get seats i ≡ Some s → HasMade n 0 s
  pub none : (i : ℕ) (s : Seat) → slice_get seats i ≡ Some s → s.ways.items ≡ []

-- one way more, which leads to the seat
pub record WayAdded (before after : List (Outlet Item)) (seat seat' : Seat) : Type 0 where
  pub way : Outlet Item
  pub is : after ≡ before ++ way ∷ []
  pub split : IsSplitOff seat.inbox seat'.inbox way
  pub ways_same : seat'.ways ≡ seat.ways

-- n seats, of which the first k have their ways
pub record Woven (n k : ℕ) (seats : List Seat) : Type 0 where
  pub count : length seats ≡ n
  pub unused : (i : ℕ) (s : Seat) → slice_get seats i ≡ Some s → HasMade n k s
  pub long : (i : ℕ) (s : Seat) → slice_get seats i ≡ Some s → i < k → length s.ways.items ≡ n
  pub fresh : (i m : ℕ) (s t : Seat) (way : Outlet Item) → slice_get seats i ≡ Some s → slice_get seats m ≡ Some t
      → slice_get s.ways.items m ≡ Some way → IsFreshWay n i t way

-- the seat that stood at a place, with the same ways and the same queue
pub record Was (before : List Seat) (i : ℕ) (s : Seat) : Type 0 where
  pub old : Seat
  pub is : slice_get before i ≡ Some old
  pub ways_same : s.ways ≡ old.ways
  pub queue_same : s.inbox.pass.table_id ≡ old.inbox.pass.table_id

-- the first m ways of the k-th site were made since
pub record Row (n k m : ℕ) (before seats : List Seat) (ways : List (Outlet Item)) : Type 0 where
  pub count : length seats ≡ n
  pub low : (i : ℕ) (s : Seat) → slice_get seats i ≡ Some s → i < m → HasMade n (k + 1) s
  pub high : (i : ℕ) (s : Seat) → slice_get seats i ≡ Some s → m ≤ i → HasMade n k s
  pub was : (i : ℕ) (s : Seat) → slice_get seats i ≡ Some s → Was before i s
  pub long : length ways ≡ m
  pub fresh : (i : ℕ) (s : Seat) (way : Outlet Item) → slice_get seats i ≡ Some s → slice_get ways i ≡ Some way → IsFreshWay n k s way

-- a port is the seat of its site
pub record Sits (seats : List Seat) (i : ℕ) (p : Inboxes) : Type 0 where
  pub seat : Seat
  pub is : slice_get seats i ≡ Some seat
  pub site_is : p.site ≡ i
  pub inbox_is : p.inbox ≡ seat.inbox
  pub ways_are : p.ways ≡ seat.ways

-- the first m seats are ports
pub record Seated (m : ℕ) (seats : List Seat) (ports : List Inboxes) : Type 0 where
  pub count : length ports ≡ m
  pub sit : (i : ℕ) (p : Inboxes) → slice_get ports i ≡ Some p → Sits seats i p
