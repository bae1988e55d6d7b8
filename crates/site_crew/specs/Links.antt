-- Seats side by side, one for each site in order, and their links.
use Rattle.std.specs.Prelude.{◌≡◌, ◌≢◌, ◌+◌, ◌<◌, ◌≤◌, ℕ, Bool, false, List, [], ◌++◌, length, Some, slice_get}
use Rattle.site_links.specs.declared.places.TheConstants.{PLACES}
use Rattle.site_links.specs.declared.port.Port as Port
use Rattle.agent_move.specs.declared.item.Item.{Item}
use Rattle.site_turn.specs.declared.seat.Seat.{Seat}

module _ {P R : Type 0} (g : Port.Ghosts P R Item) where
  -- each port has its place, and each two are linked
  pub record AreLinked (xs : List (Seat P)) : Type 0 where
    pub placed : (i : ℕ) (s : Seat P) → slice_get xs i ≡ Some s → (g.site s.port ≡ i) × (g.among s.port ≡ length xs)
    pub linked : (i j : ℕ) (s t : Seat P) → slice_get xs i ≡ Some s → slice_get xs j ≡ Some t → ∥ g.linked s.port t.port ∥₁

  -- the seat with what it knows of its links changed
  pub record Still (old new : Seat P) : Type 0 where
    pub site_same : new.site ≡ old.site
    pub aside_same : new.aside ≡ old.aside
    pub budget_same : new.budget ≡ old.budget
    pub failed_same : new.failed ≡ old.failed
    pub number : g.site new.port ≡ g.site old.port
    pub among : g.among new.port ≡ g.among old.port
    pub sent_same : (k : ℕ) → g.sent new.port k ≡ g.sent old.port k
    pub got_same : (k : ℕ) → g.got new.port k ≡ g.got old.port k

  -- what stood in a place before
  pub record Before (xs : List (Seat P)) (k : ℕ) (s : Seat P) : Type 0 where
    pub before : Seat P
    pub was : slice_get xs k ≡ Some before
    pub still : Still before s

  -- what was linked still is
  abbrev pub StayLinked : List (Seat P) → List (Seat P) → Type 0
  StayLinked xs ys = (k l : ℕ) (a b c d : Seat P) → slice_get xs k ≡ Some a → slice_get xs l ≡ Some b → slice_get ys k ≡ Some c
      → slice_get ys l ≡ Some d
      → g.linked a.port b.port → g.linked c.port d.port

  -- all seats with what they know of their links changed
  pub record AllStill (xs ys : List (Seat P)) : Type 0 where
    pub count : length ys ≡ length xs
    pub each : (k : ℕ) (s : Seat P) → slice_get ys k ≡ Some s → Before xs k s
    pub links : StayLinked xs ys

  -- What was got on the link from one site to another, and then what is known to wait there, is what was sent. The sender knows that
  -- each place is free in which nothing waits.
  pub record EndsAgree (i j : ℕ) (s t : Seat P) : Type 0 where
    pub all : g.got t.port i ++ g.known t.port i ≡ g.sent s.port j
    pub free : PLACES ≤ g.room s.port j + length (g.known t.port i)

  abbrev pub IsSettled : List (Seat P) → ℕ → ℕ → Type 0
  IsSettled xs i j = (s t : Seat P) → slice_get xs i ≡ Some s → slice_get xs j ≡ Some t → EndsAgree i j s t

  -- nothing is known to wait from the sites below n
  abbrev pub NoneWaits : ℕ → Seat P → Type 0
  NoneWaits n s = (k : ℕ) → k < n → g.known s.port k ≡ []

  -- the answer tells whether something is known to wait from the sites below n
  pub record IsTold (n : ℕ) (s : Seat P) (waits : Bool) : Type 0 where
    pub none : waits ≡ false → NoneWaits n s
    pub some : NoneWaits n s → waits ≡ false

  -- all links to a site are settled, and its seat tells whether something waits there
  pub record IsSettledTo (xs : List (Seat P)) (j : ℕ) : Type 0 where
    pub settled : (i : ℕ) → IsSettled xs i j
    pub told : (s : Seat P) → slice_get xs j ≡ Some s → IsTold (length xs) s s.waits

  -- so it is with the sites below n
  pub record AreSettledBelow (xs : List (Seat P)) (n : ℕ) : Type 0 where
    pub each : (j : ℕ) → j < n → IsSettledTo xs j

  -- and so with all sites
  abbrev pub AreSettled : List (Seat P) → Type 0
  AreSettled xs = AreSettledBelow xs (length xs)

  -- all links to a site are settled, and of the links to another site no more than is known of them has changed
  pub record AreSettledIn (j : ℕ) (xs ys : List (Seat P)) : Type 0 where
    pub still : AllStill xs ys
    pub here : IsSettledTo ys j
    pub others : (k : ℕ) → k ≢ j → IsSettledTo xs k → IsSettledTo ys k

  -- what stood in a place before the link from i to j was settled
  pub record Was (i j : ℕ) (xs : List (Seat P)) (k : ℕ) (s : Seat P) : Type 0 where
    pub before : Seat P
    pub was : slice_get xs k ≡ Some before
    pub still : Still before s
    pub waits_same : s.waits ≡ before.waits
    pub known_same : (m : ℕ) → (k ≡ j → m ≡ i → ⊥) → g.known s.port m ≡ g.known before.port m
    pub room_same : (m : ℕ) → (k ≡ i → m ≡ j → ⊥) → g.room s.port m ≡ g.room before.port m

  -- the link from one site to another is settled, and so many items wait on it
  pub record IsPairSettled (i j : ℕ) (xs ys : List (Seat P)) (many : ℕ) : Type 0 where
    pub count : length ys ≡ length xs
    pub each : (k : ℕ) (s : Seat P) → slice_get ys k ≡ Some s → Was i j xs k s
    pub links : StayLinked xs ys
    pub settled : IsSettled ys i j
    pub waiting : (s : Seat P) → slice_get ys j ≡ Some s → many ≡ length (g.known s.port i)

  -- what is told of the sites below i
  abbrev pub IsToldBelow : List (Seat P) → ℕ → ℕ → Bool → Type 0
  IsToldBelow xs j i waits = (s : Seat P) → slice_get xs j ≡ Some s → IsTold i s waits

  -- one link more is settled, and what is told of the sites before is told with it
  pub record IsOneMore (i j : ℕ) (xs ys : List (Seat P)) (before now : Bool) : Type 0 where
    pub waiting : ℕ
    pub pair : IsPairSettled i j xs ys waiting
    pub told : IsToldBelow xs j i before → IsToldBelow ys j (i + 1) now
