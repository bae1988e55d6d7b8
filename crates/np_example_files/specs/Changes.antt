-- Changes of a list of events (crates/np_examples/data/README.md, "The format").
use Rattle.std.specs.Prelude.{◌≡◌, ◌≢◌, ℕ, ◌+◌, ◌<◌, ◌&&◌, nat_le, if◌then◌else◌, List, [], ◌++◌, length, take, drop, remove, slice_get}
use Rattle.std.specs.Prelude.{slice_range, Option, Some, MatchOption}
use Rattle.np_syntax.specs.declared.value.Name.{Name}
use Rattle.np_syntax.specs.declared.event.Kind.TheVariants as kind
use Rattle.np_syntax.specs.declared.event.Event.{Event}

-- ---- parts of a list

-- the items from one place up to another; none, where the list has no such part
abbrev pub between : {X : Type 0} → List X → ℕ → ℕ → List X
between xs from to = if nat_le from to && nat_le to (length xs) then slice_range xs from to else []

-- the item at a place alone; nothing, where the list has no such place
abbrev pub at_place : {X : Type 0} → List X → ℕ → List X
at_place xs place = take 1 (drop place xs)

-- ---- changed lists

-- the list with the item at a place left out; nothing, where the place is behind the end of the list
abbrev pub without : {X : Type 0} → List X → ℕ → List X
without xs place = if nat_le place (length xs) then remove xs place else []

-- the list with the item at the later place in front of those from the earlier place on
abbrev pub moved : {X : Type 0} → List X → ℕ → ℕ → List X
moved xs earlier later = between xs 0 earlier ++ at_place xs later ++ between xs earlier later ++ drop (later + 1) xs

-- the list with the items at the two places each in the other's place
abbrev pub exchanged : {X : Type 0} → List X → ℕ → ℕ → List X
exchanged xs earlier later =
    between xs 0 earlier ++ at_place xs later ++ between xs (earlier + 1) later ++ at_place xs earlier ++ drop (later + 1) xs

-- ---- the next event of an actor

-- an event, and the first one behind it of the same actor
pub record IsNextOfActor (events : List Event) (place later : ℕ) : Type 0 where
  pub event : Event
  pub next : Event
  pub event_at : slice_get events place ≡ Some event
  pub next_at : slice_get events later ≡ Some next
  pub behind : place < later
  pub same : next.actor ≡ event.actor
  pub first : (k : ℕ) (passed : Event) → place < k → k < later → slice_get events k ≡ Some passed → passed.actor ≢ event.actor

-- no event behind the place has the actor of the event there
abbrev pub HasNoNextOfActor : List Event → ℕ → Type 0
HasNoNextOfActor events place = (event : Event) → slice_get events place ≡ Some event
    → (k : ℕ) (later : Event) → place < k → slice_get events k ≡ Some later → later.actor ≢ event.actor

-- events of one kind and one tag
abbrev pub AreAlike : Event → Event → Type 0
AreAlike one other = (one.kind ≡ other.kind) × (one.tag ≡ other.tag)

-- the next event of the same actor has another kind or another tag
pub record IsNextUnlike (events : List Event) (place later : ℕ) : Type 0 where
  pub next : IsNextOfActor events place later
  pub unlike : AreAlike next.event next.next → ⊥

-- the next event of the same actor, if there is one, is alike
abbrev pub HasNoNextUnlike : List Event → ℕ → Type 0
HasNoNextUnlike events place = (later : ℕ) (next : IsNextOfActor events place later) → AreAlike next.event next.next

-- ---- where an agent is not under way

-- the event is an Arrive of the agent
abbrev pub IsArrivalOf : Name → Event → Type 0
IsArrivalOf agent event = (event.kind ≡ kind.Arrive) × (event.actor ≡ agent)

-- the agent arrives somewhere behind the one place and before the other
pub record ArrivesBetween (events : List Event) (agent : Name) (from to : ℕ) : Type 0 where
  pub place : ℕ
  pub arrival : Event
  pub arrival_at : slice_get events place ≡ Some arrival
  pub after : from < place
  pub before : place < to
  pub arrives : IsArrivalOf agent arrival

-- the first Depart behind the last arrival of the agent before a place
pub record IsFirstDeparture (events : List Event) (agent : Name) (place early : ℕ) : Type 0 where
  pub departure : Event
  pub departure_at : slice_get events early ≡ Some departure
  pub departs : departure.kind ≡ kind.Depart
  pub before : early < place
  pub last : ArrivesBetween events agent early place → ⊥
  pub first : (k : ℕ) (event : Event) → k < early → slice_get events k ≡ Some event → event.kind ≡ kind.Depart
      → ArrivesBetween events agent k early

-- the agent arrives behind each Depart before the place
abbrev pub HasNoDeparture : List Event → Name → ℕ → Type 0
HasNoDeparture events agent place = (k : ℕ) (event : Event) → k < place → slice_get events k ≡ Some event → event.kind ≡ kind.Depart
    → ArrivesBetween events agent k place

-- that place, if there is one
abbrev pub FirstDeparture : List Event → Name → ℕ → Option ℕ → Type 0
FirstDeparture events agent place found = MatchOption found (HasNoDeparture events agent place) (IsFirstDeparture events agent place)

-- an Arrive stands at the place, and its agent has not yet departed at the early place
pub record IsEarlyPlace (events : List Event) (place early : ℕ) : Type 0 where
  pub arrival : Event
  pub arrival_at : slice_get events place ≡ Some arrival
  pub arrives : arrival.kind ≡ kind.Arrive
  pub departs : IsFirstDeparture events arrival.actor place early

-- an Arrive at the place has no such place
abbrev pub HasNoEarlyPlace : List Event → ℕ → Type 0
HasNoEarlyPlace events place = (arrival : Event) → slice_get events place ≡ Some arrival → arrival.kind ≡ kind.Arrive
    → HasNoDeparture events arrival.actor place

-- ---- where a packet is sent

-- the last event of the actor before a place
pub record IsLatest (events : List Event) (actor : Name) (place early : ℕ) : Type 0 where
  pub event : Event
  pub event_at : slice_get events early ≡ Some event
  pub same : event.actor ≡ actor
  pub before : early < place
  pub last : (k : ℕ) (passed : Event) → early < k → k < place → slice_get events k ≡ Some passed → passed.actor ≢ actor

-- no event before the place has the actor
abbrev pub HasNoneOf : List Event → Name → ℕ → Type 0
HasNoneOf events actor place = (k : ℕ) (event : Event) → k < place → slice_get events k ≡ Some event → event.actor ≢ actor

-- that place, if there is one
abbrev pub Latest : List Event → Name → ℕ → Option ℕ → Type 0
Latest events actor place found = MatchOption found (HasNoneOf events actor place) (IsLatest events actor place)

-- a Land stands at the place, and the last event of its actor before it at the early place
pub record IsSentPlace (events : List Event) (place early : ℕ) : Type 0 where
  pub landing : Event
  pub landing_at : slice_get events place ≡ Some landing
  pub lands : landing.kind ≡ kind.Land
  pub sent : IsLatest events landing.actor place early

-- a Land at the place has no such event before it
abbrev pub HasNoSentPlace : List Event → ℕ → Type 0
HasNoSentPlace events place = (landing : Event) → slice_get events place ≡ Some landing → landing.kind ≡ kind.Land
    → HasNoneOf events landing.actor place
