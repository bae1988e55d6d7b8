-- Seats of which one has gone on.
use Rattle.std.proofs.Common.{◌≡◌, ◌≢◌, ◌+◌, ◌<◌, ◌≤◌, ◌⊎◌, inl, inr, ℕ, max, List, [], ◌∷◌, length, set, get_or, Some, refl, sym, ap, subst, subst₂, ◌∙◌, arith, length-set}
use Rattle.std.specs.Prelude.{slice_get}
use Rattle.std.proofs.lemmas.Bool.Decides.{eqb_tells}
use Rattle.std.proofs.lemmas.List.{get_or-set_other}
use Rattle.std.proofs.lemmas.Option.{slice_get_within, slice_get-get_or, get_or_from_slice_get}
use Rattle.stamp_history.specs.Histories.{IsHistory, Recorded}
use Rattle.site_links.specs.declared.places.TheConstants.{PLACES}
use Rattle.site_links.specs.declared.port.Port as Port
use Rattle.site_links.proofs.Rows.{get-set_same, get-set_other}
use Rattle.np_site_runs.specs.Holdings.{Holding}
use Rattle.np_code.specs.Programs.{ProgramTable}
use Rattle.agent_move.specs.declared.item.Item.{Item}
use Rattle.site_state.specs.Standings.{Standing}
use Rattle.site_turn.specs.declared.seat.Seat.{Seat}
use Rattle.site_turn.specs.Steady.{IsSteady}
use Rattle.site_turn.specs.Turns.{HistoryGrows, Kept, Turned}
use Rattle.site_turn.proofs.Holdings.{history_same}
use Rattle.site_turn.proofs.Steps.{turned_refl}
use Rattle.site_crew.specs.Bringing.{AllHoldSame}
use Rattle.site_crew.specs.Clocks.{low_count}
use Rattle.site_crew.specs.Following.{AllRest, IsNotEarly, Moves, Rests, StandBut, at_clock}
use Rattle.site_crew.proofs.Clocks.{caught_histories, caught_steady, count_later, set_later, steady_again}
use Rattle.site_crew.specs.Links.{AreLinked, AreSettledIn, IsSettledTo, IsTold}
use Rattle.site_crew.specs.Seats.{AllGrow, AllTurned, IsSeat, Stand, histories}
use Rattle.site_crew.proofs.Crewing.{at_place, grows_again}
use Rattle.site_crew.proofs.Goings.{seat_still, seats_turned, turned_at}
use Rattle.np_syntax.proofs.Options.{some_is}
use Rattle.site_crew.proofs.Pairs.{all_still_refl, linked_after, told_same}
use Rattle.site_crew.proofs.Standing.{fresh_again}
use Rattle.site_crew.proofs.Whole.{long-histories}

-- what stands in a place where one element was replaced
pub replaced : {T : Type 0} (xs : List T) (i k : ℕ) (a c v : T) → slice_get xs i ≡ Some a → slice_get (set xs i c) k ≡ Some v → ((k ≡ i) × (v ≡ c)) ⊎ ((k ≢ i) × (slice_get xs k ≡ Some v))
replaced {T} xs i k a c v at is = elim (eqb_tells k i) [
  | inl w ↦ inl (w.1, some_is (slice_get (set xs i c) i) v c (subst (λ (m : ℕ). slice_get (set xs i c) m ≡ Some v) w.1 is) (get-set_same xs i c (slice_get_within xs i a at)))
  | inr w ↦ inr (w.1, sym (get-set_other xs i k c w.1) ∙ is)
]

-- the same links, but for those to a site
pub record SameLinks {P R : Type 0} (g : Port.Ghosts P R Item) (i to : ℕ) (old new : Seat P) : Type 0 where
  pub sent : (k : ℕ) → k ≢ to → g.sent new.port k ≡ g.sent old.port k
  pub room : (k : ℕ) → k ≢ to → g.room old.port k ≤ g.room new.port k
  pub got : i ≢ to → (k : ℕ) → (g.got new.port k ≡ g.got old.port k) × (g.known new.port k ≡ g.known old.port k)
  pub waits : i ≢ to → new.waits ≡ old.waits

module _ {P R : Type 0} {g : Port.Ghosts P R Item} where
  module _ (i to : ℕ) (xs : List (Seat P)) (a c : Seat P) (at : slice_get xs i ≡ Some a) (same : SameLinks g i to a c) where
    abbrev after : List (Seat P)
    after = set xs i c

    -- the seat of a receiver before, and that of a sender
    receiver : (j : ℕ) (t : Seat P) → j ≢ to → slice_get after j ≡ Some t
        → (b : Seat P) × (slice_get xs j ≡ Some b) × ((k : ℕ) → (g.got t.port k ≡ g.got b.port k) × (g.known t.port k ≡ g.known b.port k)) × (t.waits ≡ b.waits)
    receiver j t apart is = elim (replaced xs i j a c t at is) [
      | inl w ↦
          let away : i ≢ to = λ e. apart (w.0 ∙ e) in
          (a, subst (λ (m : ℕ). slice_get xs m ≡ Some a) (sym w.0) at, λ k. rw w.1 (same.got away k), ap (λ (s : Seat P). s.waits) w.1 ∙ same.waits away)
      | inr w ↦ (t, w.1, λ k. (refl, refl), refl)
    ]

    sender : (k j : ℕ) (s : Seat P) → j ≢ to → slice_get after k ≡ Some s
        → (b : Seat P) × (slice_get xs k ≡ Some b) × (g.sent s.port j ≡ g.sent b.port j) × (g.room b.port j ≤ g.room s.port j)
    sender k j s apart is = elim (replaced xs i k a c s at is) [
      | inl w ↦ (
        a,
        subst (λ (m : ℕ). slice_get xs m ≡ Some a) (sym w.0) at,
        ap (λ (s : Seat P). g.sent s.port j) w.1 ∙ same.sent j apart,
        subst (λ (v : Seat P). g.room a.port j ≤ g.room v.port j) (sym w.1) (same.room j apart),
      )
      | inr w ↦ (s, w.1, refl, omega arith)
    ]

    pub settled_same : (j : ℕ) → j ≢ to → IsSettledTo g xs j → IsSettledTo g after j
    settled_same j apart old = record {
      settled = λ k s t at_k at_j.
          let b = sender k j s apart at_k in
          let d = receiver j t apart at_j in
          let was = old.settled k b.0 d.0 b.1 d.1 in
          let free : PLACES ≤ g.room b.0.port j + length (g.known d.0.port k) = was.free in
          let more : g.room b.0.port j ≤ g.room s.port j = b.3 in
          record { all = rw ((d.2 k).0, (d.2 k).1, b.2) was.all; free = rw (d.2 k).1 (omega arith) };
      told = λ s at_j.
          let d = receiver j s apart at_j in
          subst (λ w. IsTold g (length after) s w) (sym d.3)
          (subst (λ (m : ℕ). IsTold g m s d.0.waits) (sym (length-set xs i c)) (told_same (length xs) d.0 s d.0.waits (λ k h. (d.2 k).1) (old.told d.0 d.1)));
    }

  module _ {code : ProgramTable} where
    pub one_turned : (xs : List (Seat P)) (i : ℕ) (a c : Seat P) → slice_get xs i ≡ Some a → Turned g code a c → AllTurned g code xs (set xs i c)
    one_turned xs i a c at turned = record {
      count = length-set xs i c;
      each = λ k d less. elim (eqb_tells k i) [
        | inl w ↦
            let was : get_or xs k d ≡ a = get_or_from_slice_get xs k a d (subst (λ (m : ℕ). slice_get xs m ≡ Some a) (sym w.1) at) in
            let now : get_or (set xs i c) k d ≡ c = get_or_from_slice_get (set xs i c) k c d (subst (λ (m : ℕ). slice_get (set xs i c) m ≡ Some c) (sym w.1) (get-set_same xs i c (slice_get_within xs i a at))) in
            subst₂ (λ (x y : Seat P). Turned g code x y) (sym was) (sym now) turned
        | inr w ↦ subst (λ (y : Seat P). Turned g code (get_or xs k d) y) (sym (get_or-set_other xs i k c d w.1)) (turned_refl (get_or xs k d))
      ];
    }

    pub all_turned_refl : (xs : List (Seat P)) → AllTurned g code xs xs
    all_turned_refl xs = record { count = refl; each = λ k d less. turned_refl (get_or xs k d) }

    pub stand_moved : {budget i to : ℕ} {xs : List (Seat P)} {a c : Seat P} → StandBut g code budget to xs → slice_get xs i ≡ Some a → Moves g code i to a c → IsHistory c.site.history
        → StandBut g code budget to (set xs i c)
    stand_moved {budget} {i} {to} {xs} {a} {c} stand at moves history =
        let turned = one_turned xs i a c at moves.turned in
        let links : SameLinks g i to a c = record { sent = moves.sent; room = moves.room; got = moves.got; waits = moves.waits } in record {
          seats = seats_turned stand.seats turned;
          settled = λ j less apart. settled_same i to xs a c at links j apart (stand.settled j (subst (λ (m : ℕ). j < m) (length-set xs i c) less) apart);
          whole = record {
            each = λ k s is. elim (replaced xs i k a c s at is) [
              | inl w ↦ subst (λ (v : Seat P). IsHistory v.site.history) (sym w.1) history
              | inr w ↦ stand.whole.each k s w.1
            ];
          };
          fresh = fresh_again stand.fresh turned (all_still_refl (set xs i c));
          steady = steady_again stand.steady (grows_again turned (all_still_refl (set xs i c))) (turned_at turned) (all_still_refl (set xs i c));
        }

    pub grows_moved : (xs : List (Seat P)) (i : ℕ) (a c : Seat P) → slice_get xs i ≡ Some a → Turned g code a c → AllGrow (histories xs) (histories (set xs i c))
    grows_moved xs i a c at turned = grows_again (one_turned xs i a c at turned) (all_still_refl (set xs i c))

    -- between rounds all links are settled
    pub but_none : {budget : ℕ} {xs : List (Seat P)} → Stand g code budget xs → (to : ℕ) → StandBut g code budget to xs
    but_none stand to = record { seats = stand.seats; settled = λ j less apart. stand.settled.each j less; whole = stand.whole; fresh = stand.fresh; steady = stand.steady }

    pub none_but : {budget : ℕ} {xs : List (Seat P)} → StandBut g code budget (length xs) xs → Stand g code budget xs
    none_but {budget} {xs} stand = record {
      seats = stand.seats;
      settled = record { each = λ j less. stand.settled j less (λ e. absurd (omega arith)) };
      whole = stand.whole;
      fresh = stand.fresh;
      steady = stand.steady;
    }

    -- once the links to that site are settled
    pub stand_settled : {budget to : ℕ} {xs ys : List (Seat P)} → StandBut g code budget to xs → AreSettledIn g to xs ys → Stand g code budget ys
    stand_settled {budget} {to} {xs} {ys} stand is = record {
      seats = record {
        count = is.still.count ∙ stand.seats.count;
        each = λ i s at. let b = is.still.each i s at in seat_still b.still (stand.seats.each i b.before b.was);
        linked = linked_after stand.seats.linked is.still;
      };
      settled = record {
        each = λ j less. elim (eqb_tells j to) [
          | inl w ↦ subst (λ (m : ℕ). IsSettledTo g ys m) (sym w.1) is.here
          | inr w ↦ is.others j w.1 (stand.settled j (subst (λ (m : ℕ). j < m) is.still.count less) w.1)
        ];
      };
      whole = record { each = λ i s at. let b = is.still.each i s at in subst (λ (v : Standing). IsHistory v.history) (sym b.still.site_same) (stand.whole.each i b.before b.was) };
      fresh = fresh_again stand.fresh (all_turned_refl xs) is.still;
      steady = steady_again stand.steady (grows_again (all_turned_refl xs) is.still) (turned_at (all_turned_refl xs)) is.still;
    }

-- one history grows where one seat is replaced
pub grows_by : {P : Type 0} (xs : List (Seat P)) (i : ℕ) (a c : Seat P) → slice_get xs i ≡ Some a → HistoryGrows a.site.history c.site.history → AllGrow (histories xs) (histories (set xs i c))
grows_by {P} xs i a c at grows = record {
  count = long-histories (set xs i c) ∙ length-set xs i c ∙ sym (long-histories xs);
  each = λ k d less. elim (eqb_tells k i) [
    | inl w ↦
        let was : get_or (histories xs) k d ≡ a.site.history = at_place xs k a d (subst (λ (m : ℕ). slice_get xs m ≡ Some a) (sym w.1) at) in
        let now : get_or (histories (set xs i c)) k d ≡ c.site.history =
        at_place (set xs i c) k c d (subst (λ (m : ℕ). slice_get (set xs i c) m ≡ Some c) (sym w.1) (get-set_same xs i c (slice_get_within xs i a at))) in
        subst₂ (λ (x y : Recorded). HistoryGrows x y) (sym was) (sym now) grows
    | inr w ↦
        let lx : k < length xs = subst (λ (m : ℕ). k < m) (long-histories xs) less in
        let v : Seat P = get_or xs k a in
        let here : slice_get xs k ≡ Some v = slice_get-get_or xs k a lx in
        let was : get_or (histories xs) k d ≡ v.site.history = at_place xs k v d here in
        let now : get_or (histories (set xs i c)) k d ≡ v.site.history = at_place (set xs i c) k v d (get-set_other xs i k c w.1 ∙ here) in
        history_same (get_or (histories xs) k d) (get_or (histories (set xs i c)) k d) (now ∙ sym was)
  ];
}

-- what stands in the same place of a list as long
pub there_too : {T : Type 0} (xs ys : List T) (i : ℕ) (a : T) → length ys ≡ length xs → slice_get xs i ≡ Some a → (b : T) × (slice_get ys i ≡ Some b)
there_too xs ys i a count at =
    let less : i < length ys = subst (λ (m : ℕ). i < m) (sym count) (slice_get_within xs i a at) in
    (get_or ys i a, slice_get-get_or ys i a less)

-- ---- seats of which none makes an event

module _ {P : Type 0} where
  pub rests_refl : (late : ℕ) (a : Seat P) → Rests late a a
  rests_refl late a = record { history = refl; clock = omega arith; later = omega arith; failed = refl }

  pub rests_trans : (late : ℕ) (a b c : Seat P) → Rests late a b → Rests late b c → Rests late a c
  rests_trans late a b c h k = record {
    history = k.history ∙ h.history;
    clock = let x = h.clock in let y = k.clock in omega arith;
    later = let x = h.later in let y = k.later in omega arith;
    failed = k.failed ∙ h.failed;
  }

  pub rests_later : (late : ℕ) (a b : Seat P) → Rests 0 a b → Rests late a b
  rests_later late a b h = record { history = h.history; clock = let x = h.clock in omega arith; later = h.later; failed = h.failed }

  pub all_rest_refl : (late : ℕ) (xs : List (Seat P)) → AllRest late xs xs
  all_rest_refl late xs = record { count = refl; each = λ i a b x y. subst (λ (s : Seat P). Rests late a s) (some_is (slice_get xs i) a b x y) (rests_refl late a) }

  pub all_rest_trans : {late : ℕ} {xs ys zs : List (Seat P)} → AllRest late xs ys → AllRest late ys zs → AllRest late xs zs
  all_rest_trans {late} {xs} {ys} {zs} h k = record {
    count = k.count ∙ h.count;
    each = λ i a c x z. let b = there_too xs ys i a h.count x in rests_trans late a b.0 c (h.each i a b.0 x b.1) (k.each i b.0 c b.1 z);
  }

  pub all_rest_later : (late : ℕ) {xs ys : List (Seat P)} → AllRest 0 xs ys → AllRest late xs ys
  all_rest_later late h = record { count = h.count; each = λ i a b x y. rests_later late a b (h.each i a b x y) }

  pub one_rests : (late : ℕ) (xs : List (Seat P)) (i : ℕ) (a c : Seat P) → slice_get xs i ≡ Some a → Rests late a c → AllRest late xs (set xs i c)
  one_rests late xs i a c at rests = record {
    count = length-set xs i c;
    each = λ k x y was is. elim (replaced xs i k a c y at is) [
      | inl w ↦ subst₂ (λ (p q : Seat P). Rests late p q) (some_is (slice_get xs i) a x at (subst (λ (m : ℕ). slice_get xs m ≡ Some x) w.0 was)) (sym w.1) rests
      | inr w ↦ subst (λ (s : Seat P). Rests late x s) (some_is (slice_get xs k) x y was w.1) (rests_refl late x)
    ];
  }

  pub grows_rest : {late : ℕ} {xs ys : List (Seat P)} → AllRest late xs ys → AllGrow (histories xs) (histories ys)
  grows_rest {late} {xs} {ys} h = record {
    count = long-histories ys ∙ h.count ∙ sym (long-histories xs);
    each = λ i d less.
        let lx : i < length xs = subst (λ (m : ℕ). i < m) (long-histories xs) less in
        let e : Seat P = get_or xs i (some-seat xs i lx) in
        let at : slice_get xs i ≡ Some e = slice_get-get_or xs i (some-seat xs i lx) lx in
        let b = there_too xs ys i e h.count at in
        history_same (get_or (histories xs) i d) (get_or (histories ys) i d) (at_place ys i b.0 d b.1 ∙ (h.each i e b.0 at b.1).history ∙ sym (at_place xs i e d at));
  }
    where
      some-seat : (xs : List (Seat P)) (i : ℕ) → i < length xs → Seat P
      some-seat [] i less = absurd (omega arith)
      some-seat (x ∷ xs) i less = x

-- ---- a clock that was caught up

-- the seat with its clock at no less than a stamp
abbrev pub caught : {P : Type 0} → Seat P → ℕ → Seat P
caught s stamp = at_clock s (max s.site.clock stamp)

module _ {P R : Type 0} {g : Port.Ghosts P R Item} {code : ProgramTable} where
  -- a clock that goes on leaves all else that is kept
  pub kept_later : {start : Holding} {a : Seat P} (clock : ℕ) → a.site.clock ≤ clock → Kept g code start a → Kept g code start (at_clock a clock)
  kept_later {start} {a} clock later h = record {
    deeds = h.deeds;
    came = h.came;
    account = h.account;
    clock = let x = h.clock in omega arith;
    events = h.events;
    from = h.from;
    within = h.within;
    got = h.got;
    put = h.put;
  }

  seat_caught : {budget i : ℕ} {a : Seat P} (stamp : ℕ) → IsSeat g code budget i a → IsSeat g code budget i (caught a stamp)
  seat_caught {budget} {i} {a} stamp h = record {
    number = h.number;
    owner = h.owner;
    placed = record { number = h.placed.number; among = h.placed.among; lines = h.placed.lines; budget = h.placed.budget };
    quiet = record { each = λ q p found there. h.quiet.each q p found there };
    kept = kept_later (max a.site.clock stamp) (omega arith) h.kept;
    budget = h.budget;
    aside = h.aside;
  }

  module _ {budget : ℕ} (xs : List (Seat P)) (i stamp : ℕ) (a : Seat P) (at : slice_get xs i ≡ Some a) (stand : Stand g code budget xs) where
    abbrev zs : List (Seat P)
    zs = set xs i (caught a stamp)

    -- the seat of a place before, at the same port
    before : (k : ℕ) (s : Seat P) → slice_get zs k ≡ Some s → (b : Seat P) × (slice_get xs k ≡ Some b) × (s.port ≡ b.port)
    before k s is = elim (replaced xs i k a (caught a stamp) s at is) [
      | inl w ↦ (a, subst (λ (m : ℕ). slice_get xs m ≡ Some a) (sym w.0) at, ap (λ (v : Seat P). v.port) w.1)
      | inr w ↦ (s, w.1, refl)
    ]

    linked : AreLinked g zs
    linked = record {
      placed = λ k s is. let b = before k s is in let p = stand.seats.linked.placed k b.0 b.1 in (ap g.site b.2 ∙ p.0, ap g.among b.2 ∙ p.1 ∙ sym (length-set xs i (caught a stamp)));
      linked = λ k l s t is it.
          let b = before k s is in let d = before l t it in
          subst₂ (λ (p q : P). ∥ g.linked p q ∥₁) (sym b.2) (sym d.2) (stand.seats.linked.linked k l b.0 d.0 b.1 d.1);
    }

    pub stand_caught : IsNotEarly stamp xs → Stand g code budget zs
    stand_caught early = none_but (record {
      seats = record {
        count = length-set xs i (caught a stamp) ∙ stand.seats.count;
        each = λ k s is. elim (replaced xs i k a (caught a stamp) s at is) [
          | inl w ↦ subst₂ (λ (m : ℕ) (v : Seat P). IsSeat g code budget m v) (sym w.0) (sym w.1) (seat_caught stamp (stand.seats.each i a at))
          | inr w ↦ stand.seats.each k s w.1
        ];
        linked = linked;
      };
      settled = λ j less apart.
          settled_same i (length zs) xs a (caught a stamp) at (record { sent = λ k h. refl; room = λ k h. omega arith; got = λ h k. (refl, refl); waits = λ h. refl }) j apart
          (stand.settled.each j (subst (λ (m : ℕ). j < m) (length-set xs i (caught a stamp)) less));
      whole = record {
        each = λ k s is. elim (replaced xs i k a (caught a stamp) s at is) [
          | inl w ↦ subst (λ (v : Seat P). IsHistory v.site.history) (sym w.1) (stand.whole.each i a at)
          | inr w ↦ stand.whole.each k s w.1
        ];
      };
      fresh = record {
        clocks = λ none k s is.
            let was : (m : ℕ) (v : Seat P) → slice_get xs m ≡ Some v → v.site.history.events ≡ [] = was-none none in
            elim (replaced xs i k a (caught a stamp) s at is) [
              | inl w ↦
                  let zero : stamp ≡ 0 = early.none was in
                  let first : a.site.clock ≡ 0 = stand.fresh.clocks was i a at in
                  ap (λ (v : Seat P). v.site.clock) w.1 ∙ omega arith
              | inr w ↦ stand.fresh.clocks was k s w.1
            ];
      };
      steady = record {
        set = max stand.steady.set stamp;
        enough = subst (λ hs. max stand.steady.set stamp ≤ low_count (max stand.steady.set stamp) hs) (sym (caught_histories xs i a (max a.site.clock stamp) at))
            (count_later (histories xs) stand.steady.set stamp stand.steady.enough early.few);
        each = λ k s is. elim (replaced xs i k a (caught a stamp) s at is) [
          | inl w ↦ subst (λ (v : Seat P). IsSteady g code (max stand.steady.set stamp) v) (sym w.1) (caught_steady stand.steady.set (max stand.steady.set stamp) stamp a (omega arith) (omega arith) (stand.steady.each i a at))
          | inr w ↦ set_later stand.steady.set (max stand.steady.set stamp) (omega arith) (stand.steady.each k s w.1)
        ];
      };
    })
      where
        was-none : ((m : ℕ) (v : Seat P) → slice_get zs m ≡ Some v → v.site.history.events ≡ []) → (m : ℕ) (v : Seat P) → slice_get xs m ≡ Some v → v.site.history.events ≡ []
        was-none none m v is = elim (eqb_tells m i) [
          | inl w ↦
              let same : a ≡ v = some_is (slice_get xs i) a v at (subst (λ (n : ℕ). slice_get xs n ≡ Some v) w.1 is) in
              let empty : (caught a stamp).site.history.events ≡ [] = none i (caught a stamp) (get-set_same xs i (caught a stamp) (slice_get_within xs i a at)) in
              subst (λ (s : Seat P). s.site.history.events ≡ []) same empty
          | inr w ↦ none m v (get-set_other xs i m (caught a stamp) w.1 ∙ is)
        ]

    pub late_caught : (s : Seat P) → slice_get zs i ≡ Some s → stamp ≤ s.site.clock
    late_caught s is =
        let same : caught a stamp ≡ s = some_is (slice_get zs i) (caught a stamp) s (get-set_same xs i (caught a stamp) (slice_get_within xs i a at)) is in
        subst (λ (v : Seat P). stamp ≤ v.site.clock) same (omega arith)

    pub rests_caught : AllRest stamp xs zs
    rests_caught = one_rests stamp xs i a (caught a stamp) at (record { history = refl; clock = omega arith; later = omega arith; failed = refl })

    pub same_caught : AllHoldSame xs zs
    same_caught = record {
      count = length-set xs i (caught a stamp);
      each = λ k x y was is. elim (replaced xs i k a (caught a stamp) y at is) [
        | inl w ↦
            let first : a ≡ x = some_is (slice_get xs i) a x at (subst (λ (m : ℕ). slice_get xs m ≡ Some x) w.0 was) in
            let now : y ≡ caught a stamp = w.1 in record {
              port = ap (λ (v : Seat P). v.port) now ∙ ap (λ (v : Seat P). v.port) first;
              aside = ap (λ (v : Seat P). v.aside) now ∙ ap (λ (v : Seat P). v.aside) first;
              lines = ap (λ (v : Seat P). v.site.outgoing) now ∙ ap (λ (v : Seat P). v.site.outgoing) first;
            }
        | inr w ↦
            let same : y ≡ x = some_is (slice_get xs k) y x w.1 was in
            record { port = ap (λ (v : Seat P). v.port) same; aside = ap (λ (v : Seat P). v.aside) same; lines = ap (λ (v : Seat P). v.site.outgoing) same }
      ];
    }
