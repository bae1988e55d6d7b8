-- The seats of a crew between rounds.
use Rattle.std.specs.Prelude.{◌≡◌, ◌<◌, ◌+◌, ℕ, Bool, List, [], ◌∷◌, length, map, get_or, Some, slice_get}
use Rattle.stamp_history.specs.Histories.{IsHistory, Recorded}
use Rattle.site_links.specs.declared.port.Port as Port
use Rattle.np_site_runs.specs.Starting.{start_holding}
use Rattle.np_code.specs.Programs.{ProgramTable, program}
use Rattle.agent_move.specs.declared.item.Item.{Item}
use Rattle.site_state.specs.Standings.{IsQuiet}
use Rattle.site_turn.specs.declared.seat.Seat.{Seat}
use Rattle.site_turn.specs.Turns.{AsideIsStrange, HistoryGrows, IsLater, Kept, Placed, TookTurn, Turned}
use Rattle.site_crew.specs.Clocks.{AreSteady}
use Rattle.site_crew.specs.Links.{AreLinked, AreSettled}

-- the histories of the seats
abbrev pub histories : {P : Type 0} → List (Seat P) → List Recorded
histories = map (λ s. s.site.history)

-- and their clocks
abbrev pub clocks : {P : Type 0} → List (Seat P) → List ℕ
clocks = map (λ s. s.site.clock)

-- how many events they have
abbrev pub event_count : List Recorded → ℕ
event_count [] = 0
event_count (h ∷ hs) = length h.events + event_count hs

-- each history keeps to what histories keep to
pub record AreWhole {P : Type 0} (xs : List (Seat P)) : Type 0 where
  pub each : (i : ℕ) (s : Seat P) → slice_get xs i ≡ Some s → IsHistory s.site.history

-- where no site has made an event, each clock is still at 0
pub record AreFresh {P : Type 0} (xs : List (Seat P)) : Type 0 where
  pub clocks : ((i : ℕ) (s : Seat P) → slice_get xs i ≡ Some s → s.site.history.events ≡ []) → (i : ℕ) (s : Seat P)
      → slice_get xs i ≡ Some s → s.site.clock ≡ 0

module _ {P R : Type 0} (g : Port.Ghosts P R Item) (code : ProgramTable) where
  -- the seat of the site with this number, which has gone on from the low start
  pub record IsSeat (limit k : ℕ) (s : Seat P) : Type 0 where
    pub number : s.site.site ≡ k
    pub owner : s.site.history.site ≡ k
    pub placed : Placed g code s
    pub quiet : IsQuiet code s.site
    pub kept : Kept g code (start_holding (program code) k) s
    pub budget : s.budget ≡ limit
    pub aside : AsideIsStrange s

  pub record AreSeats (budget : ℕ) (xs : List (Seat P)) : Type 0 where
    pub count : length xs ≡ length code.sites
    pub each : (i : ℕ) (s : Seat P) → slice_get xs i ≡ Some s → IsSeat budget i s
    pub linked : AreLinked g xs

  -- between rounds all links are settled
  pub record Stand (budget : ℕ) (xs : List (Seat P)) : Type 0 where
    pub seats : AreSeats budget xs
    pub settled : AreSettled g xs
    pub whole : AreWhole xs
    pub fresh : AreFresh xs
    pub steady : AreSteady g code xs

  -- each seat is what a turn leaves
  pub record AllTurned (xs ys : List (Seat P)) : Type 0 where
    pub count : length ys ≡ length xs
    pub each : (i : ℕ) (d : Seat P) → i < length xs → Turned g code (get_or xs i d) (get_or ys i d)

  -- what is told of the turns of all, by this effort
  pub record AllTookTurns (walks : Bool) (xs ys : List (Seat P)) : Type 0 where
    pub count : length ys ≡ length xs
    pub each : (i : ℕ) (d : Seat P) → i < length xs → TookTurn g code walks (get_or xs i d) (get_or ys i d)

-- each history at a later time
pub record AllGrow (xs ys : List Recorded) : Type 0 where
  pub count : length ys ≡ length xs
  pub each : (i : ℕ) (d : Recorded) → i < length xs → HistoryGrows (get_or xs i d) (get_or ys i d)

-- what is added to each is stamped above the clock that its site had
pub record AllLater (was : List ℕ) (xs : List Recorded) (is : List ℕ) (ys : List Recorded) : Type 0 where
  pub count : length ys ≡ length xs
  pub each : (i : ℕ) (d : Recorded) → i < length xs → IsLater (get_or was i 0) (get_or xs i d).events (get_or is i 0) (get_or ys i d).events
