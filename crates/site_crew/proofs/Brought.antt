-- An item that is first in the line of its sender comes to the site of its event.
use Rattle.std.proofs.Common.{◌≡◌, ◌≢◌, ◌<◌, ◌≤◌, ◌-◌, ◌+◌, ℕ, zero, suc, max, inl, inr, List, [], ◌∷◌, ◌++◌, length, set, None, Some, refl, sym, ap, subst, ◌∙◌, append-nil, append_assoc, arith}
use Rattle.std.specs.Prelude.{slice_get}
use Rattle.std.specs.List.{AllByRecursion}
use Rattle.std.proofs.lemmas.Bool.Decides.{eqb_tells}
use Rattle.std.proofs.lemmas.List.{append_cancel_left, map-append}
use Rattle.std.proofs.lemmas.Option.{slice_get_within}
use Rattle.np_syntax.proofs.Options.{some_is}
use Rattle.np_syntax.specs.declared.event.Event.{Event}
use Rattle.np_syntax.specs.declared.limits.TheConstants.{STAMPS_END}
use Rattle.stamp_history.specs.declared.stamped.Stamped.{Stamped}
use Rattle.stamp_history.specs.Histories.{IsHistory, Recorded}
use Rattle.site_links.specs.Words.{only_at}
use Rattle.site_links.specs.declared.port.Port as Port
use Rattle.site_links.proofs.Rows.{get-set_other, get-set_same, only_at-other, only_at-same}
use Rattle.np_site_runs.specs.merged.Deeds.{StampedItem}
use Rattle.np_site_runs.proofs.merged.Linking.{all_second}
use Rattle.np_code.specs.Programs.{ProgramTable}
use Rattle.agent_move.specs.declared.item.Item.{Item}
use Rattle.agent_move.specs.Items.{item_of}
use Rattle.item_events.specs.Coming.{event_for}
use Rattle.site_state.specs.Doing.{HasRoom}
use Rattle.site_state.specs.Lines.{Waiting, queue_at}
use Rattle.site_state.specs.Standings.{Standing}
use Rattle.site_turn.specs.declared.seat.Seat.{Seat}
use Rattle.site_turn.specs.Turns.{Seated, shown}
use Rattle.site_turn.proofs.Holdings.{recorded_events}
use Rattle.site_turn.proofs.Steps.{puts_are_own}
use Rattle.site_crew.specs.Bringing.{AllHoldSame, AreClear, HasDue, HasGot, HasNotBrought, HasNotTaken, HasSent, HaveSent, IsDueFrom, OneGoesOn}
use Rattle.site_crew.specs.Following.{AllRest, Moves, StandBut}
use Rattle.site_crew.specs.Links.{AllStill, AreSettledIn, IsPairSettled, Still}
use Rattle.site_crew.specs.Seats.{Stand}
use Rattle.site_crew.proofs.Clocks.{steady_again}
use Rattle.site_crew.proofs.Crewing.{grows_again}
use Rattle.site_crew.proofs.Goings.{seat_seated, seat_still, turned_at}
use Rattle.site_crew.proofs.Pairs.{linked_after, other_kept, still_of_pair}
use Rattle.site_crew.proofs.Redoing.{last_behind}
use Rattle.site_crew.proofs.Replacing.{all_turned_refl, there_too}
use Rattle.site_crew.proofs.Standing.{fresh_again}

-- ---- lists

one-left : {T : Type 0} (x y : T) (more : List T) → (x ∷ []) ++ more ≡ y ∷ [] → (x ≡ y) × (more ≡ [])
one-left x y more e = let same : x ≡ y = cc in let none : more ≡ [] = cc in (same, none)

none-left : {T : Type 0} (x : T) (more : List T) → (x ∷ []) ++ more ≡ [] → ⊥
none-left x more e = cc

-- what is due is in the line
pub no_first : {P : Type 0} {e : Event} {s : Seat P} → HasDue e s → queue_at s.site.outgoing e.site ≡ [] → ⊥
no_first {P} {e} {s} due none = absurd-line due.item due.later (sym none ∙ due.first)
  where
    absurd-line : (x : Item) (xs : List Item) → [] ≡ x ∷ xs → ⊥
    absurd-line x xs e = cc

pub due_same : {P : Type 0} {e : Event} {from : ℕ} {xs ys : List (Seat P)} → AllHoldSame xs ys → IsDueFrom e from xs → IsDueFrom e from ys
due_same {P} {e} {from} {xs} {ys} same due =
    let b = there_too xs ys from due.seat same.count due.at in
    let lines : b.0.site.outgoing ≡ due.seat.site.outgoing = (same.each from due.seat b.0 due.at b.1).lines in
    record { seat = b.0; at = b.1; due = record { item = due.due.item; later = due.due.later; first = ap (λ (l : List Waiting). queue_at l e.site) lines ∙ due.due.first; comes = due.due.comes } }

module _ {P R : Type 0} {g : Port.Ghosts P R Item} {code : ProgramTable} where
  -- ---- an item goes on its link

  -- one link to a site is settled
  pub but_paired : {budget i to w : ℕ} {xs ys : List (Seat P)} → StandBut g code budget to xs → IsPairSettled g i to xs ys w → StandBut g code budget to ys
  but_paired {budget} {i} {to} {w} {xs} {ys} stand pair =
      let still : AllStill g xs ys = still_of_pair pair in record {
        seats = record {
          count = still.count ∙ stand.seats.count;
          each = λ k s at. let b = still.each k s at in seat_still b.still (stand.seats.each k b.before b.was);
          linked = linked_after stand.seats.linked still;
        };
        settled = λ j less apart. other_kept i to j pair apart (stand.settled j (subst (λ (m : ℕ). j < m) still.count less) apart);
        whole = record {
          each = λ k s at. let b = still.each k s at in subst (λ (v : Standing). IsHistory v.history) (sym b.still.site_same) (stand.whole.each k b.before b.was);
        };
        fresh = fresh_again {code = code} stand.fresh (all_turned_refl xs) still;
        steady = steady_again stand.steady (grows_again {code = code} (all_turned_refl xs) still) (turned_at (all_turned_refl xs)) still;
      }

  module _ {from to : ℕ} {xs ps ys : List (Seat P)} {a c : Seat P} (first : AllStill g xs ps) (at : slice_get ps from ≡ Some a) (moves : Moves g code from to a c) (sent : HasSent g to a c)
      (last : AllStill g (set ps from c) ys) where
    -- the seats of its sender
    sender : (x y : Seat P) → slice_get xs from ≡ Some x → slice_get ys from ≡ Some y → Still g x a × Still g c y
    sender x y was is =
        let b = first.each from a at in
        let d = last.each from y is in
        let now = get-set_same ps from c (slice_get_within ps from a at) in (
          subst (λ (v : Seat P). Still g v a) (some_is (slice_get xs from) b.before x b.was was) b.still,
          subst (λ (v : Seat P). Still g v y) (some_is (slice_get (set ps from c) from) d.before c d.was now) d.still,
        )

    -- and those of another
    other : (i : ℕ) (x y : Seat P) → i ≢ from → slice_get xs i ≡ Some x → slice_get ys i ≡ Some y → (q : Seat P) × Still g x q × Still g q y
    other i x y apart was is =
        let d = last.each i y is in
        let there : slice_get ps i ≡ Some d.before = sym (get-set_other ps from i c apart) ∙ d.was in
        let b = first.each i d.before there in
        (d.before, subst (λ (v : Seat P). Still g v d.before) (some_is (slice_get xs i) b.before x b.was was) b.still, d.still)

    pub have_sent : HaveSent g from to xs ys
    have_sent = record {
      item = sent.item;
      first = λ x was.
          let b = first.each from a at in
          let same : b.before ≡ x = some_is (slice_get xs from) b.before x b.was was in
          (sent.later, ap (λ (v : Seat P). queue_at v.site.outgoing to) (sym same) ∙ ap (λ (v : Standing). queue_at v.outgoing to) (sym b.still.site_same) ∙ sent.first);
      here = λ x y was is.
          let w = sender x y was is in
          w.1.sent_same to ∙ sent.sent ∙ ap (λ l. l ++ sent.item ∷ []) (w.0.sent_same to);
      others = λ i k x y apart was is. elim (eqb_tells i from) [
        | inl h ↦
            let w = sender x y (subst (λ (m : ℕ). slice_get xs m ≡ Some x) h.1 was) (subst (λ (m : ℕ). slice_get ys m ≡ Some y) h.1 is) in
            w.1.sent_same k ∙ moves.sent k (apart h.1) ∙ w.0.sent_same k
        | inr h ↦ let w = other i x y h.1 was is in w.2.sent_same k ∙ w.1.sent_same k
      ];
      got = λ i k x y was is. elim (eqb_tells i from) [
        | inl h ↦
            let w = sender x y (subst (λ (m : ℕ). slice_get xs m ≡ Some x) h.1 was) (subst (λ (m : ℕ). slice_get ys m ≡ Some y) h.1 is) in
            w.1.got_same k ∙ sent.got k ∙ w.0.got_same k
        | inr h ↦ let w = other i x y h.1 was is in w.2.got_same k ∙ w.1.got_same k
      ];
      aside = λ i x y was is. elim (eqb_tells i from) [
        | inl h ↦
            let w = sender x y (subst (λ (m : ℕ). slice_get xs m ≡ Some x) h.1 was) (subst (λ (m : ℕ). slice_get ys m ≡ Some y) h.1 is) in
            w.1.aside_same ∙ sent.aside ∙ w.0.aside_same
        | inr h ↦ let w = other i x y h.1 was is in w.2.aside_same ∙ w.1.aside_same
      ];
    }

  -- ---- it is for the site, and was put out before

  pub due_for : {s : Seat P} → Seated g code s → (to : ℕ) (item : Item) (later : List Item) → queue_at s.site.outgoing to ≡ item ∷ later → item.to ≡ to
  due_for {s} seated to item later first =
      let kept = seated.kept in
      let own = puts_are_own s.site.site to kept.deeds kept.account.sends in
      let all : AllByRecursion (λ x. (x.item.receiver ≡ to) × (x.item.sender ≡ s.site.site)) (shown code (g.sent s.port to) ++ shown code (item ∷ later)) =
      subst (AllByRecursion (λ x. (x.item.receiver ≡ to) × (x.item.sender ≡ s.site.site)))
      (sym (kept.put to) ∙ map-append (item_of code) (g.sent s.port to) (queue_at s.site.outgoing to) ∙ ap (λ q. shown code (g.sent s.port to) ++ shown code q) first) own in
      (all_second (λ (x : StampedItem). (x.item.receiver ≡ to) × (x.item.sender ≡ s.site.site)) (shown code (g.sent s.port to)) (shown code (item ∷ later)) all).0.0

  -- ---- it is taken

  module _ {budget from : ℕ} {e : Event} {xs ys zs ws : List (Seat P)} (stand : Stand g code budget xs) (clear : AreClear g xs) (due : IsDueFrom e from xs)
      (sent : HaveSent g from e.site xs ys) (count : length ys ≡ length xs) (after : Stand g code budget ys) (settled : AreSettledIn g e.site zs ws) where
    -- what was put on the link is what is due
    is-due : sent.item ≡ due.due.item
    is-due =
        let f = sent.first due.seat due.at in
        let same : sent.item ∷ f.0 ≡ due.due.item ∷ due.due.later = sym f.1 ∙ due.due.first in cc

    module _ {Goes : Seat P → Seat P → Type 0} (one : OneGoesOn g e.site ys zs Goes) where
      -- what the site had got before is what was sent to it
      had : (i : ℕ) (x : Seat P) → slice_get xs i ≡ Some x → g.got one.old.port i ≡ g.sent x.port e.site
      had i x at =
          let b = there_too ys xs e.site one.old (sym count) one.was in
          sent.got e.site i b.0 one.old b.1 one.was ∙ clear.got i e.site x b.0 at b.1

      -- and the item is known to wait
      waits : g.known one.old.port from ≡ due.due.item ∷ []
      waits =
          let s = there_too xs ys from due.seat count due.at in
          let all = ((after.settled.each e.site (slice_get_within ys e.site one.old one.was)).settled from s.0 one.old s.1 one.was).all in
          let put = sent.here due.seat s.0 due.at s.1 in
          append_cancel_left (g.got one.old.port from) (g.known one.old.port from) (due.due.item ∷ [])
          (all ∙ put ∙ ap (λ (x : Item). g.sent due.seat.port e.site ++ x ∷ []) is-due ∙ ap (λ l. l ++ due.due.item ∷ []) (sym (had from due.seat due.at)))

      module _ (f : ℕ) (x : Item) (got : HasGot g f x one.old one.new) where
        -- a seat at the end, and what it was when the item was on its link
        line-of : (i : ℕ) (t u : Seat P) → slice_get ws e.site ≡ Some t → slice_get ws i ≡ Some u → (v : Seat P) × (slice_get ys i ≡ Some v)
            × ((k : ℕ) → g.sent u.port k ≡ g.sent v.port k) × (i ≢ e.site → (m : ℕ) → g.got u.port m ≡ g.got v.port m) × (i ≢ e.site → u.aside ≡ v.aside)
        line-of i t u at_t at_u =
            let z = settled.still.each i u at_u in
            elim (eqb_tells i e.site) [
              | inl h ↦
                  let here : slice_get zs e.site ≡ Some z.before = subst (λ (m : ℕ). slice_get zs m ≡ Some z.before) h.1 z.was in
                  let new : one.new ≡ z.before = some_is (slice_get zs e.site) one.new z.before one.is here in (
                    one.old,
                    subst (λ (m : ℕ). slice_get ys m ≡ Some one.old) (sym h.1) one.was,
                    λ k. z.still.sent_same k ∙ ap (λ (v : Seat P). g.sent v.port k) (sym new) ∙ got.sent k,
                    λ apart. absurd (apart h.1),
                    λ apart. absurd (apart h.1),
                  )
              | inr h ↦ (z.before, one.others i z.before h.1 z.was, λ k. z.still.sent_same k, λ apart m. z.still.got_same m, λ apart. z.still.aside_same)
            ]

        got-now : (t : Seat P) → slice_get ws e.site ≡ Some t → (i : ℕ) → g.got t.port i ≡ g.got one.old.port i ++ only_at i f x
        got-now t at i =
            let z = settled.still.each e.site t at in
            let new : one.new ≡ z.before = some_is (slice_get zs e.site) one.new z.before one.is z.was in
            z.still.got_same i ∙ ap (λ (v : Seat P). g.got v.port i) (sym new) ∙ got.got i

        -- on the link from a site
        left-of : (i : ℕ) (t u : Seat P) → slice_get ws e.site ≡ Some t → slice_get ws i ≡ Some u → (w : Seat P) × (slice_get xs i ≡ Some w)
            × (i ≡ from → only_at i f x ++ g.known t.port i ≡ due.due.item ∷ []) × (i ≢ from → only_at i f x ++ g.known t.port i ≡ [])
        left-of i t u at_t at_u =
            let v = line-of i t u at_t at_u in
            let w = there_too ys xs i v.0 (sym count) v.1 in
            let all : g.got t.port i ++ g.known t.port i ≡ g.sent u.port e.site = (settled.here.settled i u t at_u at_t).all in
            let sent_now : g.got one.old.port i ++ (only_at i f x ++ g.known t.port i) ≡ g.sent v.0.port e.site =
            sym (append_assoc (g.got one.old.port i) (only_at i f x) (g.known t.port i)) ∙ ap (λ l. l ++ g.known t.port i) (sym (got-now t at_t i)) ∙ all ∙ v.2 e.site in (
              w.0,
              w.1,
              λ here.
                  let x_is : slice_get xs from ≡ Some w.0 = subst (λ (m : ℕ). slice_get xs m ≡ Some w.0) here w.1 in
                  let y_is : slice_get ys from ≡ Some v.0 = subst (λ (m : ℕ). slice_get ys m ≡ Some v.0) here v.1 in
                  append_cancel_left (g.got one.old.port i) (only_at i f x ++ g.known t.port i) (due.due.item ∷ [])
                  (sent_now ∙ sent.here w.0 v.0 x_is y_is ∙ ap (λ (y : Item). g.sent w.0.port e.site ++ y ∷ []) is-due ∙ ap (λ l. l ++ due.due.item ∷ []) (sym (had i w.0 w.1))),
              λ apart.
                  append_cancel_left (g.got one.old.port i) (only_at i f x ++ g.known t.port i) []
                  (sent_now ∙ sent.others i e.site w.0 v.0 (λ h k. apart h) w.1 v.1 ∙ sym (had i w.0 w.1) ∙ sym (append-nil (g.got one.old.port i))),
            )

        -- the seat of the event's site at the end, and that of the item's sender
        last-seat : (i : ℕ) (s : Seat P) → slice_get ys i ≡ Some s → (u : Seat P) × (slice_get ws i ≡ Some u)
        last-seat i s at = there_too ys ws i s (settled.still.count ∙ one.count) at

        from-due : (f ≡ from) × (x ≡ due.due.item)
        from-due =
            let p = after.seats.linked.placed e.site one.old one.was in
            let low : f < length ys = subst (λ (m : ℕ). f < m) p.1 got.within in
            let s = seat-at ys f low in
            let t = last-seat e.site one.old one.was in
            let u = last-seat f s.0 s.1 in
            let l = left-of f t.0 u.0 t.1 u.1 in
            elim (eqb_tells f from) [
              | inl h ↦ (h.1, (one-left x due.due.item (g.known t.0.port f) (ap (λ l. l ++ g.known t.0.port f) (sym (only_at-same f x)) ∙ l.2 h.1)).0)
              | inr h ↦ absurd (none-left x (g.known t.0.port f) (ap (λ l. l ++ g.known t.0.port f) (sym (only_at-same f x)) ∙ l.3 h.1))
            ]
          where
            seat-at : (xs : List (Seat P)) (i : ℕ) → i < length xs → (s : Seat P) × (slice_get xs i ≡ Some s)
            seat-at [] i less = absurd (omega arith)
            seat-at (y ∷ ys) zero less = (y, refl)
            seat-at (y ∷ ys) (suc i) less = seat-at ys i (omega arith)

        none-waits : (i : ℕ) (t u : Seat P) → slice_get ws e.site ≡ Some t → slice_get ws i ≡ Some u → g.known t.port i ≡ []
        none-waits i t u at_t at_u =
            let l = left-of i t u at_t at_u in
            let d = from-due in
            elim (eqb_tells i from) [
              | inl h ↦
                  let at_f : only_at i f x ≡ x ∷ [] = ap (λ (m : ℕ). only_at i m x) (d.0 ∙ sym h.1) ∙ only_at-same i x in
                  (one-left x due.due.item (g.known t.port i) (ap (λ l. l ++ g.known t.port i) (sym at_f) ∙ l.2 h.1)).1
              | inr h ↦
                  let away : only_at i f x ≡ [] = only_at-other i f x (λ k. h.1 (k ∙ d.0)) in
                  ap (λ l. l ++ g.known t.port i) (sym away) ∙ l.3 h.1
            ]

        pub clear_again : one.new.aside ≡ None → AreClear g ws
        clear_again free = record {
          got = λ i j s t at_s at_t. elim (eqb_tells j e.site) [
            | inl h ↦
                let here : slice_get ws e.site ≡ Some t = subst (λ (m : ℕ). slice_get ws m ≡ Some t) h.1 at_t in
                let all : g.got t.port i ++ g.known t.port i ≡ g.sent s.port e.site = (settled.here.settled i s t at_s here).all in
                subst (λ (m : ℕ). g.got t.port i ≡ g.sent s.port m) (sym h.1)
                (sym (append-nil (g.got t.port i)) ∙ ap (λ l. g.got t.port i ++ l) (sym (none-waits i t s here at_s)) ∙ all)
            | inr h ↦
                let o = last-seat e.site one.old one.was in
                let v = line-of i o.0 s o.1 at_s in
                let w = line-of j o.0 t o.1 at_t in
                let a = there_too ys xs i v.0 (sym count) v.1 in
                let b = there_too ys xs j w.0 (sym count) w.1 in
                w.3 h.1 i ∙ sent.got j i b.0 w.0 b.1 w.1 ∙ clear.got i j a.0 b.0 a.1 b.1
                ∙ sym (sent.others i j a.0 v.0 (λ p q. h.1 q) a.1 v.1) ∙ sym (v.2 j)
          ];
          aside = λ i s at. elim (eqb_tells i e.site) [
            | inl h ↦
                let z = settled.still.each i s at in
                let here : slice_get zs e.site ≡ Some z.before = subst (λ (m : ℕ). slice_get zs m ≡ Some z.before) h.1 z.was in
                let new : one.new ≡ z.before = some_is (slice_get zs e.site) one.new z.before one.is here in
                z.still.aside_same ∙ ap (λ (v : Seat P). v.aside) (sym new) ∙ free
            | inr h ↦
                let o = last-seat e.site one.old one.was in
                let v = line-of i o.0 s o.1 at in
                let a = there_too ys xs i v.0 (sym count) v.1 in
                v.4 h.1 ∙ sent.aside i a.0 v.0 a.1 v.1 ∙ clear.aside i a.0 a.1
          ];
        }

    -- it is taken, where there is room for the event
    module _ {stamp : ℕ} (one : OneGoesOn g e.site ys zs (HasNotTaken g e stamp)) (low : due.due.item.stamp ≤ stamp - 1) (some : 1 ≤ stamp) (few : stamp ≤ STAMPS_END) (clock : one.old.site.clock ≡ stamp - 1) where
      here : one.old.site.site ≡ e.site
      here = (after.seats.each e.site one.old one.was).number

      sure : HasNotTaken g e stamp one.old one.new → HasRoom one.old.site → ⊥
      sure (HasNotTaken.aside set) room =
          let b = there_too ys xs e.site one.old (sym count) one.was in
          set (sent.aside e.site b.0 one.old b.1 one.was ∙ clear.aside e.site b.0 b.1)
      sure (HasNotTaken.full full) room = full room
      sure (HasNotTaken.none none) room = let f : due.due.item ∷ [] ≡ [] = sym (waits one) ∙ none from in cc
      sure (HasNotTaken.strange f x got strange) room =
          let d = from-due one f x got in
          let to : x.to ≡ one.old.site.site =
          ap (λ (y : Item). y.to) d.1 ∙ due_for (seat_seated from stand.seats due.at) e.site due.due.item due.due.later due.due.first ∙ sym here in
          let stamped : x.stamp ≡ due.due.item.stamp = ap (λ (y : Item). y.stamp) d.1 in
          strange to (omega arith)
      sure (HasNotTaken.other f x got taken missed) room =
          let d = from-due one f x got in
          let lines : length code.sites ≡ length one.old.site.outgoing = sym (after.seats.each e.site one.old one.was).placed.lines in
          let did = taken.did code lines in
          let stamped : x.stamp ≡ due.due.item.stamp = ap (λ (y : Item). y.stamp) d.1 in
          let ticks : one.new.site.clock ≡ max one.old.site.clock x.stamp + 1 = did.clock in
          let now : one.new.site.clock ≡ stamp = omega arith in
          let event : taken.event ≡ e = taken.coming ∙ ap (λ (m : ℕ). event_for m x.load) here ∙ ap (λ (y : Item). event_for e.site y.load) d.1 ∙ due.due.comes in
          let x_is : Stamped = record { stamp = one.new.site.clock; event = taken.event } in
          let events = ap (λ (h : Recorded). h.events) did.history ∙ recorded_events one.old.site.history x_is did.value in
          let same : x_is ≡ record { stamp = stamp; event = e } = λ i. record { stamp = now i; event = event i } in
          missed (last_behind one.old.site.history.events one.new.site.history.events (record { stamp = stamp; event = e })
          (events ∙ ap (λ (y : Stamped). one.old.site.history.events ++ y ∷ []) same))

      pub no_room : {was : List (Seat P)} {late : ℕ} → AllRest late was ys → HasNotBrought e was
      no_room {was} {late} rest = HasNotBrought.full (λ s at room.
          let h : one.old.site.history ≡ s.site.history = (rest.each e.site s one.old at one.was).history in
          sure one.goes (subst (λ (r : Recorded). length r.events < r.budget) (sym h) room))
