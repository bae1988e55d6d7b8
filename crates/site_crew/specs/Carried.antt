-- That the links and the outgoing lines of a crew carry what its sites put on their way, and what they took (docs/HISTORIES.md, "History
-- text").
use Rattle.std.specs.Prelude.{◌≡◌, ◌<◌, ◌==◌, ◌++◌, ℕ, List, [], ◌∷◌, length, map, get_or, Some, slice_get}
use Rattle.std.specs.List.{AllByRecursion, filter}
use Rattle.np_syntax.specs.declared.event.Event.{Event}
use Rattle.np_syntax.specs.declared.event.Kind.{Kind}
use Rattle.np_syntax.specs.declared.event.Kind.TheVariants as kind
use Rattle.stamp_history.specs.declared.stamped.Stamped.{Stamped}
use Rattle.stamp_history.specs.Histories.{Recorded}
use Rattle.run_save.specs.following.ByKind.{puts_out, takes_in}
use Rattle.site_links.specs.Words.{Begins}
use Rattle.agent_move.specs.declared.item.Item.{Item}
use Rattle.agent_move.specs.declared.load.Load.{Load}
use Rattle.agent_move.specs.declared.load.Load.TheVariants as load
use Rattle.site_crew.specs.Shown.{SeatState}

-- the stamps of items rise
abbrev pub RiseInLine : List Item → Type 0
RiseInLine [] = Unit {0}
RiseInLine (x ∷ xs) = AllByRecursion (λ later. x.stamp < later.stamp) xs × RiseInLine xs

-- what a site put on its links, and then what it is still to put there, by the site at the other end
abbrev pub line_to : SeatState → ℕ → List Item
line_to seat t = get_or seat.sent t [] ++ get_or seat.outgoing t []

-- Of one site, one of n, what it put on its way, in the order of its events: there is one item for each Depart and each Send of its
-- history, with the stamp of that event. They are just those of its links and outgoing lines, on each of which they stand in this
-- order, by rising stamps.
pub record HasSent (n : ℕ) (h : Recorded) (seat : SeatState) : Type 0 where
  pub all : List Item
  pub stamps : map (λ x. x.stamp) all ≡ map (λ e. e.stamp) (filter (λ e. puts_out e.event.kind) h.events)
  pub within : AllByRecursion (λ x. x.to < n) all
  pub lines : (t : ℕ) → t < n → line_to seat t ≡ filter (λ x. x.to == t) all
  pub rise : (t : ℕ) → t < n → RiseInLine (line_to seat t)

-- the load is what the event took: the agent that arrived, or the packet that landed
abbrev pub IsTakenBy : Kind → Event → Load → Type 0
IsTakenBy kind.Arrive e (load.Agent pool) = pool.name ≡ e.actor
IsTakenBy kind.Land e (load.Packet mark packet) = mark ≡ e.actor
IsTakenBy _ e l = ⊥

-- the items are what the events took, one by one
abbrev pub AreTakenBy : List Stamped → List Item → Type 0
AreTakenBy [] [] = Unit {0}
AreTakenBy (e ∷ es) (x ∷ xs) = IsTakenBy e.event.kind e.event x.load × AreTakenBy es xs
AreTakenBy _ _ = ⊥

-- Of one site, one of n, what it took, in the order of its events: there is one item for each Arrive and each Land of its history. They
-- are just those that it got on its links, on each of which they stand in this order.
pub record HasTaken (n : ℕ) (h : Recorded) (seat : SeatState) : Type 0 where
  pub all : List Item
  pub each : AreTakenBy (filter (λ e. takes_in e.event.kind) h.events) all
  pub within : AllByRecursion (λ x. x.from < n) all
  pub lines : (s : ℕ) → s < n → get_or seat.got s [] ≡ filter (λ x. x.from == s) all

-- So it is with each site, and on each link what was taken is the first of what was put there.
pub record IsCarriedBy (seats : List SeatState) (hs : List Recorded) : Type 0 where
  pub sent : (s : ℕ) (seat : SeatState) (h : Recorded) → slice_get seats s ≡ Some seat → slice_get hs s ≡ Some h
      → HasSent (length seats) h seat
  pub taken : (s : ℕ) (seat : SeatState) (h : Recorded) → slice_get seats s ≡ Some seat → slice_get hs s ≡ Some h
      → HasTaken (length seats) h seat
  pub first : (s t : ℕ) (sender receiver : SeatState) → slice_get seats s ≡ Some sender → slice_get seats t ≡ Some receiver
      → Begins (get_or sender.sent t []) (get_or receiver.got s [])
