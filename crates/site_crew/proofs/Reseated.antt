-- The seats of a crew came to be others by a call on the slice of its vector.
use Rattle.std.proofs.Common.{◌≡◌, nat_lt, ◌≤◌, ◌++◌, ℕ, Bool, false, List, length, take, drop, refl, sym, ap, subst, subst₂, ◌∙◌, arith, Result, IfOk, OnOk}
use Rattle.np_syntax.specs.declared.limits.TheConstants.{LARGEST_BUDGET}
use Rattle.np_syntax.specs.declared.memory.Memory.{Memory}
use Rattle.site_links.specs.declared.port.Port as Port
use Rattle.np_code.specs.Programs.{ProgramTable, program}
use Rattle.agent_move.specs.declared.item.Item.{Item}
use Rattle.site_turn.specs.declared.seat.Seat.{Seat}
use Rattle.site_crew.specs.Crews.{CrewState, GoesOn, IsCrew, IsJudged, IsRoundOf, NoneFailed}
use Rattle.site_crew.specs.declared.round.Round.{Round}
use Rattle.site_crew.specs.Passes.{AreDone, NoneAside}
use Rattle.site_crew.specs.Runs.{IsProgram, RunsSafely}
use Rattle.site_crew.specs.Seats.{AllGrow, AllLater, Stand, clocks, event_count, histories}
use Rattle.site_crew.specs.Shown.{seat_states}
use Rattle.site_crew.proofs.Crewing.{not-less-tells, round_told, slice_whole, told_ok}
use Rattle.site_crew.proofs.Carrying.{HasEnd, has_end}
use Rattle.site_crew.proofs.Free.{free_aside}
use Rattle.site_crew.proofs.Whole.{long-histories}

-- what contracts see of a crew of these seats
abbrev pub state : {P R : Type 0} → Port.Ghosts P R Item → ProgramTable → ℕ → Bool → List (Seat P) → CrewState
state g code most failed xs =
    record { code = code; budget = most; failed = failed; histories = histories xs; clocks = clocks xs; seats = seat_states g xs }

module _ {P R : Type 0} {g : Port.Ghosts P R Item} {code : ProgramTable} {most n : ℕ} {items old now : List (Seat P)} (ok : n ≡ length items) (value : old ≡ items)
    (stand : Stand g code most now) (grow : AllGrow (histories old) (histories now)) where
  -- the elements of the vector after the call
  abbrev kept : List (Seat P)
  kept = take n (now ++ drop (length now) items)

  pub kept_is : kept ≡ now
  kept_is = slice_whole items now n ok (sym (long-histories now) ∙ grow.count ∙ long-histories old ∙ ap length value)

  pub kept_run : IsProgram code → HasEnd g code most kept
  kept_run is = subst (HasEnd g code most) (sym kept_is) (has_end g code most now stand is)

  pub kept_crew : {failed failed_now : Bool} → IsCrew g code most failed items → (failed_now ≡ false → NoneFailed kept) → IsCrew g code most failed_now kept
  kept_crew is sound = record { safe = is.safe; program = is.program; budget = is.budget; stand = subst (λ (xs : List (Seat P)). Stand g code most xs) (sym kept_is) stand; sound = sound }

  -- what is known of the seats where no event was added
  pub kept_done : {before after : ℕ} {first last : List (Seat P)} → before ≡ event_count (histories first) → first ≡ items → after ≡ event_count (histories now) → last ≡ kept
      → (event_count (histories now) ≤ event_count (histories old) → NoneFailed now → NoneAside now → AreDone code most now)
      → nat_lt before after ≡ false → NoneFailed last → NoneAside last → AreDone code most last
  kept_done {before} {after} {first} {last} from first_is to last_is done none sound free =
      let same : last ≡ now = last_is ∙ kept_is in
      let low : after ≤ before = not-less-tells before after none in
      let was : before ≡ event_count (histories old) = from ∙ ap (λ xs. event_count (histories xs)) (first_is ∙ sym value) in
      subst (AreDone code most) (sym same) (done (omega arith) (subst NoneFailed same sound) (subst NoneAside same free))

  module _ {failed : Bool} {was : CrewState} (seen : state g code most failed items ≡ was) where
    pub kept_on : {failed_now : Bool} → GoesOn was (state g code most failed_now kept)
    kept_on {failed_now} = subst (λ (s : CrewState). GoesOn s (state g code most failed_now kept)) seen (record {
      code = refl;
      budget = refl;
      histories = subst₂ (λ (xs ys : List (Seat P)). AllGrow (histories xs) (histories ys)) value (sym kept_is) grow;
    })

    pub kept_later : AllLater (clocks old) (histories old) (clocks now) (histories now) → AllLater was.clocks was.histories (clocks kept) (histories kept)
    kept_later later =
        subst (λ (s : CrewState). AllLater s.clocks s.histories (clocks kept) (histories kept)) seen
        (subst₂ (λ (xs ys : List (Seat P)). AllLater (clocks xs) (histories xs) (clocks ys) (histories ys)) value (sym kept_is) later)

    -- what is told of a round is so
    pub kept_round : RunsSafely (program code) → IsProgram code → most ≤ LARGEST_BUDGET → (failed_now : Bool) {before after : ℕ} {first last : List (Seat P)} → before ≡ event_count (histories first) → first ≡ items
        → after ≡ event_count (histories now) → last ≡ kept → (round : Round) (r : Result Round Memory) → (NoneFailed last → NoneAside last → IsJudged code most (nat_lt before after) last round)
        → (failed_now ≡ false → NoneFailed last) → OnOk r (failed_now ≡ false) → IfOk r (λ x. round ≡ x) → IfOk r (IsRoundOf was (state g code most failed_now kept))
    kept_round safe is budget failed_now {before} {after} {first} {last} from first_is to last_is round r judged none sound told =
        told_ok round r (failed_now ≡ false) (λ x. IsJudged code most (nat_lt before after) now x) (IsRoundOf was (state g code most failed_now kept))
        (λ ok.
        let same : last ≡ now = last_is ∙ kept_is in
        let free : NoneAside now = free_aside stand is.few budget (subst NoneFailed same (none ok)) in
        subst (λ (xs : List (Seat P)). IsJudged code most (nat_lt before after) xs round) same (judged (none ok) (subst NoneAside (sym same) free))) sound told
        (round_told g code most was (state g code most failed_now kept) now stand safe is refl refl (ap histories kept_is) (ap (seat_states g) kept_is) before after
        (from ∙ ap (λ xs. event_count (histories xs)) first_is ∙ ap (λ (s : CrewState). event_count s.histories) seen)
        (to ∙ ap (λ xs. event_count (histories xs)) (sym kept_is)))
