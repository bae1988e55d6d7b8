-- A crew goes on by rounds.
use Rattle.std.proofs.Common.{◌≡◌, nat_lt, ◌<◌, ◌≤◌, ◌++◌, ℕ, Bool, true, false, List, length, take, drop, get_or, Option, None, Some, option_map, refl, sym, ap, subst, subst₂, ◌∙◌, arith, Result, Ok, Err, IfOk, OnOk}
use Rattle.std.specs.Prelude.{slice_get}
use Rattle.std.proofs.lemmas.Grind.{common_steps}
use Rattle.std.proofs.lemmas.Bool.Decides.{nat_tests}
use Rattle.std.proofs.lemmas.Option.{get_or_from_slice_get, slice_get-map}
use Rattle.np_calculus.specs.Config.{Config}
use Rattle.np_syntax.specs.declared.memory.Memory.{Memory}
use Rattle.stamp_history.specs.Histories.{Recorded}
use Rattle.site_links.specs.Words.{IsFullMake, IsUnused}
use Rattle.site_links.specs.declared.port.Port as Port
use Rattle.np_code.specs.Programs.{ProgramTable, program}
use Rattle.agent_move.specs.declared.item.Item.{Item}
use Rattle.site_state.specs.Standings.{Standing}
use Rattle.site_turn.specs.declared.seat.Seat.{Seat}
use Rattle.site_turn.specs.Turns.{HistoryGrows, IsLater}
use Rattle.site_turn.proofs.Holdings.{history_same, later_same}
use Rattle.site_crew.specs.Crews.{CrewState, IsCrew, IsJudged, IsRoundOf, NoneFailed, Tells}
use Rattle.site_crew.specs.declared.round.Round.{Round}
use Rattle.site_crew.specs.declared.round.Round.TheVariants as round
use Rattle.site_crew.specs.Links.{AllStill}
use Rattle.site_crew.specs.Runs.{IsProgram, OnlySpentCan, RunsSafely, SpentCan}
use Rattle.crew_ends.specs.Starts.{AreFirst}
use Rattle.site_crew.specs.Seats.{AllGrow, AllLater, AllTurned, Stand, clocks, event_count, histories}
use Rattle.site_crew.specs.Shown.{seat_states}
use Rattle.site_crew.proofs.Goings.{turned_at}
use Rattle.site_crew.proofs.Standing.{stand_first}
use Rattle.site_crew.proofs.Spending.{IsEndOf, crew_end}
use Rattle.site_crew.proofs.Carrying.{HasEnd, carried_by, has_end}
use Rattle.site_crew.proofs.Whole.{long-histories, not-past}

pub slice_whole : {T : Type 0} (items new : List T) (n : ℕ) → n ≡ length items → length new ≡ length items → take n (new ++ drop (length new) items) ≡ new
slice_whole items new n e long = grind (arith, common_steps)

-- the history in a place
pub at_place : {P : Type 0} (xs : List (Seat P)) (i : ℕ) (s : Seat P) (d : Recorded) → slice_get xs i ≡ Some s → get_or (histories xs) i d ≡ s.site.history
at_place xs i s d at = get_or_from_slice_get (histories xs) i s.site.history d (slice_get-map (λ s. s.site.history) xs i ∙ ap (λ o. option_map (λ s. s.site.history) o) at)

-- the clock in a place
pub clock_in : {P : Type 0} (xs : List (Seat P)) (i : ℕ) (s : Seat P) → slice_get xs i ≡ Some s → get_or (clocks xs) i 0 ≡ s.site.clock
clock_in xs i s at = get_or_from_slice_get (clocks xs) i s.site.clock 0 (slice_get-map (λ s. s.site.clock) xs i ∙ ap (λ o. option_map (λ s. s.site.clock) o) at)

pub later_refl : (cs : List ℕ) (hs : List Recorded) → AllLater cs hs cs hs
later_refl cs hs = record { count = refl; each = λ i d h. later_same (get_or cs i 0) (get_or cs i 0) (get_or hs i d).events (get_or hs i d).events refl refl }

pub grow_refl : (hs : List Recorded) → AllGrow hs hs
grow_refl hs = record { count = refl; each = λ i d h. history_same (get_or hs i d) (get_or hs i d) refl }

module _ {P R : Type 0} {g : Port.Ghosts P R Item} {code : ProgramTable} where
  grow_of : {xs ys zs : List (Seat P)} → AllTurned g code xs ys → AllStill g ys zs → (i : ℕ) (d : Recorded) → i < length zs → (o : Option (Seat P)) → slice_get zs i ≡ o
      → HistoryGrows (get_or (histories xs) i d) (get_or (histories zs) i d)
  grow_of {xs} {ys} {zs} turned still i d h None e = absurd (not-past zs i e h)
  grow_of {xs} {ys} {zs} turned still i d h (Some s) e =
      let b = still.each i s e in let a = turned_at turned i b.before b.was in
      subst₂ (λ (x y : Recorded). HistoryGrows x y) (sym (at_place xs i a.0 d a.1)) (sym (at_place zs i s d e ∙ ap (λ (v : Standing). v.history) b.still.site_same)) a.2.history

  pub grows_again : {xs ys zs : List (Seat P)} → AllTurned g code xs ys → AllStill g ys zs → AllGrow (histories xs) (histories zs)
  grows_again {xs} {ys} {zs} turned still =
      let long : length zs ≡ length xs = still.count ∙ turned.count in record {
        count = long-histories zs ∙ long ∙ sym (long-histories xs);
        each = λ i d h.
            let lx : i < length xs = subst (λ (m : ℕ). i < m) (long-histories xs) h in
            let lz : i < length zs = subst (λ (m : ℕ). i < m) (sym long) lx in
            grow_of turned still i d lz (slice_get zs i) refl;
      }

  later_of : {xs ys zs : List (Seat P)} → AllTurned g code xs ys → AllStill g ys zs → (i : ℕ) (d : Recorded) → i < length zs → (o : Option (Seat P)) → slice_get zs i ≡ o
      → IsLater (get_or (clocks xs) i 0) (get_or (histories xs) i d).events (get_or (clocks zs) i 0) (get_or (histories zs) i d).events
  later_of {xs} {ys} {zs} turned still i d h None e = absurd (not-past zs i e h)
  later_of {xs} {ys} {zs} turned still i d h (Some s) e =
      let b = still.each i s e in let a = turned_at turned i b.before b.was in
      let first : IsLater (get_or (clocks xs) i 0) (get_or (histories xs) i d).events b.before.site.clock b.before.site.history.events =
      subst₂ (λ (n : ℕ) (x : Recorded). IsLater n x.events b.before.site.clock b.before.site.history.events) (sym (clock_in xs i a.0 a.1)) (sym (at_place xs i a.0 d a.1)) a.2.later in
      subst₂ (λ (m : ℕ) (y : Recorded). IsLater (get_or (clocks xs) i 0) (get_or (histories xs) i d).events m y.events)
      (sym (clock_in zs i s e ∙ ap (λ (v : Standing). v.clock) b.still.site_same)) (sym (at_place zs i s d e ∙ ap (λ (v : Standing). v.history) b.still.site_same)) first

  pub later_again : {xs ys zs : List (Seat P)} → AllTurned g code xs ys → AllStill g ys zs → AllLater (clocks xs) (histories xs) (clocks zs) (histories zs)
  later_again {xs} {ys} {zs} turned still =
      let long : length zs ≡ length xs = still.count ∙ turned.count in record {
        count = long-histories zs ∙ long ∙ sym (long-histories xs);
        each = λ i d h.
            let lx : i < length xs = subst (λ (m : ℕ). i < m) (long-histories xs) h in
            let lz : i < length zs = subst (λ (m : ℕ). i < m) (sym long) lx in
            later_of turned still i d lz (slice_get zs i) refl;
      }

  -- ports as they were made, and first sites at them
  pub stand_made : {n most : ℕ} {ports : List P} {xs : List (Seat P)} → n ≡ length code.sites → IsFullMake g.site g.among g.linked n ports
      → ((i : ℕ) (p : P) → slice_get ports i ≡ Some p → IsUnused n (g.sent p) (g.got p) (g.known p) (g.room p)) → AreFirst code most ports xs → Stand g code most xs
  stand_made {n} {most} {ports} {xs} e make unused first =
      stand_first (subst (λ (m : ℕ). IsFullMake g.site g.among g.linked m ports) e make)
      (λ i p at. subst (λ (m : ℕ). IsUnused m (g.sent p) (g.got p) (g.known p) (g.room p)) e (unused i p at)) first

  -- its merged histories are a run, which ends in what it shows
  pub has_run : {most : ℕ} {failed : Bool} {xs : List (Seat P)} → IsCrew g code most failed xs → HasEnd g code most xs
  has_run {most} {failed} {xs} is = has_end g code most xs is.stand is.program

pub none_failed : {P : Type 0} {code : ProgramTable} {most : ℕ} {ports : List P} {xs : List (Seat P)} → AreFirst code most ports xs → NoneFailed xs
none_failed first = record { each = λ i s at. (first.each i s at).2.failed }

-- what holds of a round that is told
pub told_ok : (round : Round) (r : Result Round Memory) (Sound : Type 0) (P Q : Round → Type 0) → (Sound → P round) → OnOk r Sound → IfOk r (λ x. round ≡ x) → ((x : Round) → P x → Q x) → IfOk r Q
told_ok round (Ok x) Sound P Q p sound e f = f x (subst P e (p sound))
told_ok round (Err m) Sound P Q p sound e f = tt

less-tells : (m n : ℕ) → nat_lt m n ≡ true → m < n
less-tells m n e = grind (arith, nat_tests)

pub not-less-tells : (m n : ℕ) → nat_lt m n ≡ false → n ≤ m
not-less-tells m n e = grind (arith, nat_tests)

module _ {P : Type 0} (code : ProgramTable) (most : ℕ) (xs : List (Seat P)) (end : Config) (is : IsEndOf code most xs end) (before after : ℕ) where
  tells_of : (r : Round) → IsJudged code most (nat_lt before after) xs r → Tells before after end r
  tells_of round.Went h = less-tells before after h
  tells_of round.Rest h = (not-less-tells before after h.0, is.rests h.1)
  tells_of round.Spent h = (not-less-tells before after h.0, λ idle. h.1 (is.quiet idle))

  spent_of : RunsSafely (program code) → (r : Round) → IsJudged code most (nat_lt before after) xs r → r ≡ round.Spent → OnlySpentCan most (histories xs) end
  spent_of safe round.Went h e = absurd (let f = e in cc)
  spent_of safe round.Rest h e = absurd (let f = e in cc)
  spent_of safe round.Spent h e = is.spent safe h.2

  -- one that has can still act
  still_of : RunsSafely (program code) → (r : Round) → IsJudged code most (nat_lt before after) xs r → r ≡ round.Spent → SpentCan most (histories xs) end
  still_of safe round.Went h e = absurd (let f = e in cc)
  still_of safe round.Rest h e = absurd (let f = e in cc)
  still_of safe round.Spent h e =
      let found = is.some (λ idle. h.1 (is.quiet idle)) in record { site = found.0; can = found.1; spent = is.spent safe h.2 found.0 found.1 }

module _ {P R : Type 0} (g : Port.Ghosts P R Item) where
  -- what a round was judged to be is so
  pub round_told : (code : ProgramTable) (most : ℕ) (old new : CrewState) (xs : List (Seat P)) → Stand g code most xs → RunsSafely (program code) → IsProgram code → new.code ≡ code → new.budget ≡ most
      → new.histories ≡ histories xs → new.seats ≡ seat_states g xs → (before after : ℕ) → before ≡ event_count old.histories → after ≡ event_count new.histories
      → (r : Round) → IsJudged code most (nat_lt before after) xs r → IsRoundOf old new r
  round_told code most old new xs stand safe is c b h seats before after was now r judged =
      let e = crew_end g code most xs stand is in record {
        end = e.0;
        run = rw (c, b, h) e.1.run;
        shown = rw (c, seats, h) e.2;
        carried = rw (seats, h) (carried_by g code most xs stand is);
        tells = subst₂ (λ (m n : ℕ). Tells m n e.0 r) was now (tells_of code most xs e.0 e.1 before after r judged);
        spent = λ is_spent. rw (b, h) (spent_of code most xs e.0 e.1 before after safe r judged is_spent);
        still = λ is_spent. rw (b, h) (still_of code most xs e.0 e.1 before after safe r judged is_spent);
      }
