-- The events of the first seats, one seat after another.
use Rattle.std.proofs.Common.{◌≡◌, ◌+◌, ◌<◌, ℕ, zero, suc, List, [], ◌∷◌, length, get_or, refl, sym, ap, ◌∙◌, arith, Some, subst, inl, inr}
use Rattle.std.specs.Prelude.{slice_get}
use Rattle.std.proofs.lemmas.Bool.Decides.{eqb_tells}
use Rattle.std.proofs.lemmas.Option.{get_or_from_slice_get}
use Rattle.stamp_history.specs.Histories.{IsHistory}
use Rattle.site_turn.specs.declared.seat.Seat.{Seat}
use Rattle.site_crew.specs.Seats.{event_count, histories}

-- the events of the first seats
abbrev pub counted : {P : Type 0} → List (Seat P) → ℕ → ℕ
counted [] n = 0
counted (s ∷ ss) zero = 0
counted (s ∷ ss) (suc n) = length s.site.history.events + counted ss n

pub counted_none : {P : Type 0} (xs : List (Seat P)) → counted xs 0 ≡ 0
counted_none [] = refl
counted_none (s ∷ ss) = refl

counted-suc : {P : Type 0} (xs : List (Seat P)) (n : ℕ) (d : Seat P) → n < length xs → counted xs (suc n) ≡ counted xs n + length (get_or xs n d).site.history.events
counted-suc [] n d h = absurd (omega arith)
counted-suc (s ∷ ss) zero d h = ap (λ m. length s.site.history.events + m) (counted_none ss) ∙ omega arith
counted-suc (s ∷ ss) (suc n) d h =
    let e = counted-suc ss n d (omega arith) in
    ap (λ m. length s.site.history.events + m) e ∙ omega arith

pub counted_more : {P : Type 0} (xs : List (Seat P)) (n : ℕ) (s : Seat P) → n < length xs → s ≡ get_or xs n s → counted xs (n + 1) ≡ counted xs n + length s.site.history.events
counted_more xs n s h is =
    let e : n + 1 ≡ suc n = omega arith in
    ap (counted xs) e ∙ counted-suc xs n s h ∙ ap (λ v. counted xs n + length v.site.history.events) (sym is)

pub counted_all : {P : Type 0} (xs : List (Seat P)) → counted xs (length xs) ≡ event_count (histories xs)
counted_all [] = refl
counted_all (s ∷ ss) = ap (λ m. length s.site.history.events + m) (counted_all ss)

-- the histories of the seats below n
abbrev pub WholeBelow : {P : Type 0} → List (Seat P) → ℕ → Type 0
WholeBelow {P} xs n = (i : ℕ) (s : Seat P) → slice_get xs i ≡ Some s → i < n → IsHistory s.site.history

pub whole_more : {P : Type 0} (xs : List (Seat P)) (n : ℕ) (d : Seat P) → WholeBelow xs n → d ≡ get_or xs n d → IsHistory d.site.history → WholeBelow xs (n + 1)
whole_more {P} xs n d whole here is i s at h =
    elim (eqb_tells i n) [
      | inl w ↦
          let same : get_or xs n d ≡ s = get_or_from_slice_get xs n s d (subst (λ (m : ℕ). slice_get xs m ≡ Some s) w.1 at) in
          subst (λ (v : Seat P). IsHistory v.site.history) (here ∙ same) is
      | inr w ↦ whole i s at (omega arith)
    ]

pub none_counted : {P : Type 0} (xs : List (Seat P)) → ((i : ℕ) (s : Seat P) → slice_get xs i ≡ Some s → s.site.history.events ≡ []) → event_count (histories xs) ≡ 0
none_counted [] none = refl
none_counted (s ∷ ss) none =
    let first : length s.site.history.events ≡ 0 = ap length (none 0 s refl) in
    let rest : event_count (histories ss) ≡ 0 = none_counted ss (λ i t at. none (suc i) t at) in
    omega arith
