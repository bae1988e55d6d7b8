-- Whether a site is quiet or over, by what is found of the seat in its place.
use Rattle.std.proofs.Common.{◌≡◌, ◌≤◌, ◌<◌, ◌∙◌, ℕ, List, length, get_or, Some, subst, sym, ap, refl, arith}
use Rattle.std.specs.Prelude.{slice_get}
use Rattle.std.proofs.lemmas.Option.{slice_get-get_or, slice_get_read, get_or_from_slice_get}
use Rattle.stamp_history.specs.Histories.{Recorded}
use Rattle.np_code.specs.Programs.{ProgramTable}
use Rattle.site_turn.specs.declared.seat.Seat.{Seat}
use Rattle.crew_ends.specs.Quiet.{AllQuiet, IsOver, IsQuietSeat, IsResting, NoneSends}

pub count_of : (n : ℕ) (found kept : Recorded) → n ≡ length found.events → found ≡ kept → n ≡ length kept.events
count_of n found kept count same = count ∙ ap (λ (h : Recorded). length h.events) same

pub not_quiet : {P : Type 0} (code : ProgramTable) (xs : List (Seat P)) (i : ℕ) (x : Seat P) → i < length xs → x ≡ get_or xs i x → (IsQuietSeat code x → ⊥) → AllQuiet code xs → ⊥
not_quiet code xs i x h is others all = others (all.each i x (slice_get_read xs (length xs) i x refl h is))

module _ {P : Type 0} (code : ProgramTable) (budget : ℕ) (xs : List (Seat P)) (i n : ℕ) (x : Seat P) (h : i < length xs) (count : n ≡ length (get_or xs i x).site.history.events) where
  found : (s : Seat P) → slice_get xs i ≡ Some s → get_or xs i x ≡ s
  found s at = get_or_from_slice_get xs i s x at

  -- the seat in the place has made as many events as the budget
  spent : budget ≤ n → (s : Seat P) → slice_get xs i ≡ Some s → length s.site.history.events < budget → ⊥
  spent all s at less =
      let same : n ≡ length s.site.history.events = count ∙ ap (λ (v : Seat P). length v.site.history.events) (found s at) in
      omega (arith, all, less, same)

  pub over_spent : budget ≤ n → IsOver code budget xs i
  over_spent all = record { rests = λ s at less. absurd (spent all s at less); sent = λ s at less. absurd (spent all s at less) }

  -- the seat that is found in the place
  there : (y : Seat P) → y ≡ get_or xs i y → y ≡ get_or xs i x
  there y is = is ∙ get_or_from_slice_get xs i (get_or xs i x) y (slice_get-get_or xs i x h)

  fewer : n < budget → length (get_or xs i x).site.history.events < budget
  fewer less = subst (λ m. m < budget) count less

  pub not_resting : (y : Seat P) → y ≡ get_or xs i y → n < budget → (IsResting code y → ⊥) → IsOver code budget xs i → ⊥
  not_resting y is less busy over = busy (subst (λ (v : Seat P). IsResting code v) (sym (there y is)) (over.rests (get_or xs i x) (slice_get-get_or xs i x h) (fewer less)))

  pub not_sent : n < budget → (NoneSends xs i → ⊥) → IsOver code budget xs i → ⊥
  not_sent less sends over = sends (over.sent (get_or xs i x) (slice_get-get_or xs i x h) (fewer less))

  pub over_resting : (y : Seat P) → y ≡ get_or xs i y → IsResting code y → NoneSends xs i → IsOver code budget xs i
  over_resting y is rests sent = record {
    rests = λ s at less. subst (λ (v : Seat P). IsResting code v) (there y is ∙ found s at) rests;
    sent = λ s at less. sent;
  }
