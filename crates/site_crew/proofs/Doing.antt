-- The events of a list are done one after another.
use Rattle.std.proofs.Common.{◌≡◌, ◌<◌, ◌≤◌, ◌+◌, inl, inr, ℕ, zero, suc, max, Bool, true, false, Result, Ok, Err, IfOk, List, [], ◌∷◌, ◌++◌, length, get_or, Option, None, Some, option_map, refl, sym, ap, subst, ◌∙◌, arith, length-append}
use Rattle.std.specs.Prelude.{slice_get}
use Rattle.std.proofs.lemmas.Bool.Decides.{eqb_tells}
use Rattle.std.proofs.lemmas.Option.{slice_get-map}
use Rattle.np_syntax.specs.declared.memory.Memory.{Memory}
use Rattle.np_syntax.specs.declared.event.Event.{Event}
use Rattle.np_syntax.specs.declared.program.LowProgram.{LowProgram}
use Rattle.stamp_history.specs.declared.stamped.Stamped.{Stamped}
use Rattle.stamp_history.specs.Histories.{Recorded}
use Rattle.site_links.specs.declared.port.Port as Port
use Rattle.np_code.specs.Programs.{ProgramTable}
use Rattle.run_save.specs.Ours.{IsOurs}
use Rattle.run_save.specs.following.Following.{AreInPlace, AreOf, HaveOneMore}
use Rattle.run_save.proofs.following.Following.{none_follow, one_more_follows}
use Rattle.agent_move.specs.declared.item.Item.{Item}
use Rattle.site_turn.specs.declared.seat.Seat.{Seat}
use Rattle.site_crew.specs.Crews.{CrewState, NoneFailed}
use Rattle.site_crew.specs.Lists.{AreWithin, HasFollowed, HasRedone}
use Rattle.site_crew.specs.Clocks.{low_count}
use Rattle.site_crew.specs.Following.{AllRest, AreAt, AreLate, HaveAdded, HaveDone, IsNotEarly}
use Rattle.site_crew.proofs.Clocks.{count_of, rest_histories}
use Rattle.site_crew.specs.Seats.{Stand, clocks, event_count, histories}
use Rattle.np_syntax.proofs.Options.{some_is}
use Rattle.site_crew.proofs.Replacing.{rests_later, rests_trans, there_too}
use Rattle.site_crew.proofs.Whole.{long-histories}

-- ---- one event more, and what rests before and after it

module _ {P : Type 0} where
  pub added_after : {e : Event} {stamp late : ℕ} {xs ys zs : List (Seat P)} → AllRest late xs ys → HaveAdded e stamp 0 ys zs → HaveAdded e stamp late xs zs
  added_after {e} {stamp} {late} {xs} {ys} {zs} rest added = record {
    count = added.count ∙ rest.count;
    at = subst (λ (m : ℕ). e.site < m) rest.count added.at;
    there = λ a c x z.
        let b = there_too xs ys e.site a rest.count x in
        let r = rest.each e.site a b.0 x b.1 in
        let d = added.there b.0 c b.1 z in
        record {
          events = d.events ∙ ap (λ (h : Recorded). h.events ++ record { stamp = stamp; event = e } ∷ []) r.history;
          clock = d.clock;
          sound = λ ok. d.sound (r.failed ∙ ok);
        };
    others = λ i a c apart x z.
        let b = there_too xs ys i a rest.count x in
        rests_trans late a b.0 c (rest.each i a b.0 x b.1) (rests_later late b.0 c (added.others i b.0 c apart b.1 z));
  }

  pub added_before : {e : Event} {stamp late : ℕ} {xs ys zs : List (Seat P)} → HaveAdded e stamp late xs ys → AllRest 0 ys zs → HaveAdded e stamp late xs zs
  added_before {e} {stamp} {late} {xs} {ys} {zs} added rest = record {
    count = rest.count ∙ added.count;
    at = added.at;
    there = λ a c x z.
        let b = there_too xs ys e.site a added.count x in
        let d = added.there a b.0 x b.1 in
        let r = rest.each e.site b.0 c b.1 z in
        let low = r.clock in let high = r.later in let is = d.clock in
        record { events = ap (λ (h : Recorded). h.events) r.history ∙ d.events; clock = omega arith; sound = λ ok. r.failed ∙ d.sound ok };
    others = λ i a c apart x z.
        let b = there_too xs ys i a added.count x in
        rests_trans late a b.0 c (added.others i a b.0 apart x b.1) (rests_later late b.0 c (rest.each i b.0 c b.1 z));
  }

-- ---- the histories of seats

pub seat-of : {P : Type 0} (xs : List (Seat P)) (i : ℕ) (h : Recorded) → slice_get (histories xs) i ≡ Some h → (s : Seat P) × (slice_get xs i ≡ Some s) × (h ≡ s.site.history)
seat-of xs i h is = one (slice_get xs i) refl (sym (slice_get-map (λ s. s.site.history) xs i) ∙ is)
  where
    one : (o : Option (Seat _)) → slice_get xs i ≡ o → option_map (λ s. s.site.history) o ≡ Some h → (s : Seat _) × (slice_get xs i ≡ Some s) × (h ≡ s.site.history)
    one None e f = absurd (let x = f in cc)
    one (Some s) e f = (s, e, some_is (Some h) h s.site.history refl (sym f))

pub history-at : {P : Type 0} (xs : List (Seat P)) (i : ℕ) (s : Seat P) → slice_get xs i ≡ Some s → slice_get (histories xs) i ≡ Some s.site.history
history-at xs i s at = slice_get-map (λ s. s.site.history) xs i ∙ ap (option_map (λ s. s.site.history)) at

more-of : {P : Type 0} (e : Event) (stamp late : ℕ) (xs ys : List (Seat P)) → HaveAdded e stamp late xs ys → HaveOneMore (histories xs) (histories ys) e stamp
more-of e stamp late xs ys added = record {
  count = long-histories ys ∙ added.count ∙ sym (long-histories xs);
  at = subst (λ (m : ℕ). e.site < m) (sym (long-histories xs)) added.at;
  there = λ h k x y.
      let a = seat-of xs e.site h x in let b = seat-of ys e.site k y in
      ap (λ (r : Recorded). r.events) b.2 ∙ (added.there a.0 b.0 a.1 b.1).events ∙ ap (λ (r : Recorded). r.events ++ record { stamp = stamp; event = e } ∷ []) (sym a.2);
  others = λ i h k apart x y.
      let a = seat-of xs i h x in let b = seat-of ys i k y in
      ap (λ (r : Recorded). r.events) (b.2 ∙ (added.others i a.0 b.0 apart a.1 b.1).history ∙ sym a.2);
}

pub none_of : {P : Type 0} (xs : List (Seat P)) → event_count (histories xs) ≡ 0 → (i : ℕ) (s : Seat P) → slice_get xs i ≡ Some s → s.site.history.events ≡ []
none_of [] none i s at = absurd (let e = at in cc)
none_of (x ∷ xs) none zero s at =
    let same : x ≡ s = some_is (Some x) x s refl at in
    subst (λ (v : Seat _). v.site.history.events ≡ []) same (empty x.site.history.events (omega arith))
  where
    empty : (es : List Stamped) → length es ≡ 0 → es ≡ []
    empty [] e = refl
    empty (y ∷ ys) e = absurd (omega arith)
none_of (x ∷ xs) none (suc i) s at = none_of xs (omega arith) i s at

module _ {P R : Type 0} {g : Port.Ghosts P R Item} {code : ProgramTable} where
  pub in_place : {budget : ℕ} {xs : List (Seat P)} → Stand g code budget xs → AreInPlace (histories xs)
  in_place {budget} {xs} stand = record {
    each = λ i h is.
        let s = seat-of xs i h is in
        (ap (λ (r : Recorded). r.site) s.2 ∙ (stand.seats.each i s.0 s.1).owner, rw s.2 (stand.whole.each i s.0 s.1));
  }

  pub done_more : {budget : ℕ} {events : List Event} {e : Event} {stamp late : ℕ} {xs ys : List (Seat P)} → HaveDone g code budget events xs → Stand g code budget ys
      → HaveAdded e stamp late xs ys → stamp ≡ length events + 1 → late ≤ length events → HaveDone g code budget (events ++ e ∷ []) ys
  done_more {budget} {events} {e} {stamp} {late} {xs} {ys} done stand added is low = record {
    stand = stand;
    of = one_more_follows events e (histories xs) (histories ys) (in_place done.stand) (in_place stand) done.of
        (subst (λ (m : ℕ). HaveOneMore (histories xs) (histories ys) e m) is (more-of e stamp late xs ys added));
    clocks = λ i s at.
        let a = there_too ys xs i s (sym added.count) at in
        let long : length (events ++ e ∷ []) ≡ length events + 1 = length-append events (e ∷ []) in
        elim (eqb_tells i e.site) [
          | inl w ↦
              let x : slice_get xs e.site ≡ Some a.0 = subst (λ (m : ℕ). slice_get xs m ≡ Some a.0) w.1 a.1 in
              let y : slice_get ys e.site ≡ Some s = subst (λ (m : ℕ). slice_get ys m ≡ Some s) w.1 at in
              let here : s.site.clock ≡ stamp = (added.there a.0 s x y).clock in omega arith
          | inr w ↦
              let r : s.site.clock ≤ max a.0.site.clock late = (added.others i a.0 s w.1 a.1 at).clock in
              let old : a.0.site.clock ≤ length events = done.clocks i a.0 a.1 in omega arith
        ];
    sound = record {
      each = λ i s at.
          let a = there_too ys xs i s (sym added.count) at in
          let ok : a.0.failed ≡ false = done.sound.each i a.0 a.1 in
          elim (eqb_tells i e.site) [
            | inl w ↦
                (added.there a.0 s (subst (λ (m : ℕ). slice_get xs m ≡ Some a.0) w.1 a.1) (subst (λ (m : ℕ). slice_get ys m ≡ Some s) w.1 at)).sound ok
            | inr w ↦ (added.others i a.0 s w.1 a.1 at).failed ∙ ok
          ];
    };
  }

  -- none of the events was done yet
  pub done_none : {budget : ℕ} {xs : List (Seat P)} → Stand g code budget xs → event_count (histories xs) ≡ 0 → NoneFailed xs → HaveDone g code budget [] xs
  done_none {budget} {xs} stand none sound = record {
    stand = stand;
    of = none_follow (histories xs) (λ i h is. let s = seat-of xs i h is in ap (λ (r : Recorded). r.events) s.2 ∙ none_of xs none i s.0 s.1);
    clocks = λ i s at. let zero : s.site.clock ≡ 0 = stand.fresh.clocks (none_of xs none) i s at in omega arith;
    sound = sound;
  }

  -- all of them were done, and the clocks were caught up
  pub done_late : {budget : ℕ} {events : List Event} {xs ys : List (Seat P)} → HaveDone g code budget events xs → Stand g code budget ys → AllRest (length events) xs ys
      → HaveDone g code budget events ys
  done_late {budget} {events} {xs} {ys} done stand rest =
      let same : histories ys ≡ histories xs = rest_histories xs ys rest in record {
        stand = stand;
        of = subst (AreOf events) (sym same) done.of;
        clocks = λ i s at.
            let a = there_too ys xs i s (sym rest.count) at in
            let r : s.site.clock ≤ max a.0.site.clock (length events) = (rest.each i a.0 s a.1 at).clock in
            let old : a.0.site.clock ≤ length events = done.clocks i a.0 a.1 in omega arith;
        sound = record { each = λ i s at. let a = there_too ys xs i s (sym rest.count) at in (rest.each i a.0 s a.1 at).failed ∙ done.sound.each i a.0 a.1 };
      }

  pub all_at : {budget : ℕ} {events : List Event} {ys : List (Seat P)} → HaveDone g code budget events ys → AreLate (length events) ys → AreAt (length events) ys
  all_at done late = record { each = λ i s at. let low = done.clocks i s at in let high = late.each i s at in omega arith }

  -- it is not early where so many events were done
  pub not_early : {budget : ℕ} {events : List Event} {xs : List (Seat P)} → HaveDone g code budget events xs → (stamp : ℕ) → stamp ≡ length events → IsNotEarly stamp xs
  not_early {budget} {events} {xs} done stamp is = record {
    none = λ none.
        let empty = none_follow (histories xs) (λ i h at. let s = seat-of xs i h at in ap (λ (r : Recorded). r.events) s.2 ∙ none i s.0 s.1) in
        let zero : length events ≡ 0 = ap length (sym done.of.items ∙ empty.items) in
        is ∙ zero;
    few = subst (λ (n : ℕ). n ≤ low_count n (histories xs)) (sym is) (count_of events (histories xs) done.of);
  }

-- ---- what a crew shows that has done them

clocks_at : {P : Type 0} (n : ℕ) (xs : List (Seat P)) → AreAt n xs → (s : ℕ) → s < length xs → get_or (clocks xs) s 0 ≡ n
clocks_at n [] at s less = absurd (omega arith)
clocks_at n (x ∷ xs) at zero less = at.each 0 x refl
clocks_at n (x ∷ xs) at (suc s) less = clocks_at n xs (record { each = λ i t is. at.each (suc i) t is }) s (omega arith)

pub has_followed : {P R : Type 0} {g : Port.Ghosts P R Item} {code : ProgramTable} {budget : ℕ} (low : LowProgram) (events : List Event) (c : CrewState) (xs : List (Seat P)) → c.histories ≡ histories xs
    → c.clocks ≡ clocks xs → c.failed ≡ false → AreWithin (length low.sites) c.budget events → IsOurs low events → HaveDone g code budget events xs → AreAt (length events) xs
    → HasFollowed low events c
has_followed low events c xs same times sound within ours done at = record {
  within = within;
  ours = ours;
  of = subst (AreOf events) (sym same) done.of;
  clocks = λ s less.
      let low : s < length xs = subst (λ (m : ℕ). s < m) (ap length same ∙ long-histories xs) less in
      ap (λ cs. get_or cs s 0) times ∙ clocks_at (length events) xs at s low;
  sound = sound;
}

pub has_redone : {P R : Type 0} {g : Port.Ghosts P R Item} {code : ProgramTable} {budget : ℕ} (events : List Event) (c : CrewState) (xs : List (Seat P)) → c.histories ≡ histories xs
    → c.clocks ≡ clocks xs → c.failed ≡ false → AreWithin (length c.code.sites) c.budget events → HaveDone g code budget events xs → AreAt (length events) xs → HasRedone events c
has_redone events c xs same times sound within done at = record {
  within = within;
  of = subst (AreOf events) (sym same) done.of;
  clocks = λ s less.
      let low : s < length xs = subst (λ (m : ℕ). s < m) (ap length same ∙ long-histories xs) less in
      ap (λ cs. get_or cs s 0) times ∙ clocks_at (length events) xs at s low;
  sound = sound;
}

pub on_redone : {A B D : Type 0} (r : Result Bool Memory) (flag : Bool) (C : Type 0) → (A → B → D → flag ≡ true → C) → IfOk r (λ all. all ≡ true → A) → IfOk r (λ all. all ≡ true → B)
    → IfOk r (λ all. all ≡ true → D) → IfOk r (λ all. flag ≡ all) → IfOk r (λ all. all ≡ true → C)
on_redone (Ok all) flag C f a b d is = λ yes. f (a yes) (b yes) (d yes) (is ∙ yes)
on_redone (Err m) flag C f a b d is = tt
