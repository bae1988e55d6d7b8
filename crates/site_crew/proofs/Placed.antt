-- A seat of a list goes on in its place, which `index` has found.
use Rattle.std.proofs.Common.{◌≡◌, ◌<◌, ◌-◌, ℕ, List, length, set, get_or, subst}
use Rattle.std.proofs.lemmas.List.{get_or-set_same}
use Rattle.std.proofs.lemmas.Option.{slice_get-get_or}
use Rattle.np_syntax.specs.declared.event.Event.{Event}
use Rattle.stamp_history.specs.Histories.{IsHistory}
use Rattle.site_links.specs.declared.port.Port as Port
use Rattle.np_code.specs.Programs.{ProgramTable}
use Rattle.agent_move.specs.declared.item.Item.{Item}
use Rattle.site_turn.specs.declared.seat.Seat.{Seat}
use Rattle.site_turn.specs.Turns.{Seated}
use Rattle.site_crew.specs.Following.{Adds, HasNotRedone, HaveAdded, HaveNotRedone, IsNotEarly, TurnsBy}
use Rattle.site_crew.specs.Seats.{AllGrow, AreSeats, Stand, histories}
use Rattle.site_crew.proofs.Goings.{seat_seated}
use Rattle.site_crew.proofs.Redoing.{added_one, grows_turned, not_redone_at, stand_turned}

module _ {P : Type 0} (xs : List (Seat P)) {i : ℕ} (within : i < length xs) where
  pub history_placed : (c y : Seat P) → IsHistory (get_or (set xs i c) i y).site.history → IsHistory c.site.history
  history_placed c y h = subst (λ (s : Seat P). IsHistory s.site.history) (get_or-set_same xs i c y within) h

  module _ {R : Type 0} {g : Port.Ghosts P R Item} {code : ProgramTable} where
    pub seated_placed : {budget : ℕ} → AreSeats g code budget xs → (x : Seat P) → Seated g code (get_or xs i x)
    seated_placed seats x = seat_seated i seats (slice_get-get_or xs i x within)

    module _ (x : Seat P) {c : Seat P} (stamp : ℕ) (turned : TurnsBy g code stamp (get_or xs i x) c) where
      pub grow_placed : AllGrow (histories xs) (histories (set xs i c))
      grow_placed = grows_turned stamp i xs (get_or xs i x) c (slice_get-get_or xs i x within) turned

      pub stand_placed : {budget : ℕ} → Stand g code budget xs → (get_or xs i x).site.clock < stamp → IsNotEarly (stamp - 1) xs
          → (c.port ≡ (get_or xs i x).port) × (c.waits ≡ (get_or xs i x).waits) → (y : Seat P)
          → IsHistory (get_or (set xs i c) i y).site.history → Stand g code budget (set xs i c)
      stand_placed stand above early port y h = stand_turned stamp i stand (slice_get-get_or xs i x within) above early turned port.0 port.1 (history_placed c y h)

module _ {P : Type 0} (e : Event) (stamp : ℕ) (xs : List (Seat P)) (within : e.site < length xs) (x c : Seat P) where
  pub added_placed : Adds e stamp (get_or xs e.site x) c → HaveAdded e stamp 0 xs (set xs e.site c)
  added_placed = added_one e stamp xs (get_or xs e.site x) c (slice_get-get_or xs e.site x within)

  pub not_redone_placed : (code : ProgramTable) → HasNotRedone code e stamp (get_or xs e.site x) c → HaveNotRedone code e stamp xs (set xs e.site c)
  not_redone_placed code = not_redone_at code e stamp xs (get_or xs e.site x) c (slice_get-get_or xs e.site x within)
