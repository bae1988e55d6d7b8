-- What is on the links between the events of a list.
use Rattle.std.proofs.Common.{◌≡◌, ◌<◌, ◌≤◌, ◌-◌, ◌==◌, ℕ, zero, suc, Bool, true, false, cond, inl, inr, List, [], ◌∷◌, ◌++◌, length, map, flat_map, set, Option, None, Some, IfSome, option_to_list, refl, sym, ap, subst, ◌∙◌, append-nil, arith}
use Rattle.std.specs.Prelude.{slice_get}
use Rattle.std.specs.List.{AllByRecursion}
use Rattle.std.proofs.lemmas.Bool.{eq-eqb}
use Rattle.std.proofs.lemmas.List.{append_cancel_left, map-append}
use Rattle.std.proofs.lemmas.Option.{slice_get_within}
use Rattle.np_syntax.proofs.Options.{some_is}
use Rattle.run_merge.proofs.InOrder.{all_filter, all_flat_map}
use Rattle.site_links.specs.declared.places.TheConstants.{PLACES}
use Rattle.site_links.specs.declared.port.Port as Port
use Rattle.np_site_runs.specs.merged.Deeds.{Deed, StampedItem, Ticks, clock_after, put_for, ticked}
use Rattle.np_site_runs.proofs.merged.Linking.{all_second}
use Rattle.np_site_runs.specs.Accounts.{Came, came_on}
use Rattle.np_site_runs.specs.Holdings.{Holding}
use Rattle.np_code.specs.Programs.{ProgramTable}
use Rattle.agent_move.specs.declared.item.Item.{Item}
use Rattle.agent_move.specs.Items.{item_of}
use Rattle.site_state.specs.Lines.{queue_at}
use Rattle.site_turn.specs.declared.seat.Seat.{Seat}
use Rattle.site_turn.specs.Turns.{Kept, came_from, shown}
use Rattle.site_crew.specs.Bringing.{AllHoldSame, AreClear, IsFree}
use Rattle.site_crew.specs.Links.{AllStill, AreLinked, IsSettled}
use Rattle.site_crew.specs.Seats.{Stand}
use Rattle.site_crew.proofs.Pairs.{with_port}
use Rattle.site_crew.proofs.Replacing.{replaced, there_too}

-- ---- lists

front_nil : {T : Type 0} (xs ys : List T) → xs ++ ys ≡ [] → xs ≡ []
front_nil [] ys e = refl
front_nil (x ∷ xs) ys e = absurd (let f = e in cc)

back_nil : {T : Type 0} (xs ys : List T) → xs ++ ys ≡ [] → ys ≡ []
back_nil [] ys e = e
back_nil (x ∷ xs) ys e = absurd (let f = e in cc)

unmapped : {S T : Type 0} (f : S → T) (xs : List S) → map f xs ≡ [] → xs ≡ []
unmapped f [] e = refl
unmapped f (x ∷ xs) e = absurd (let g = e in cc)

-- what an item that was put out has as its stamp is no later than the clock
ticks-later : (clock : ℕ) (ds : List Deed) → Ticks clock ds → clock ≤ clock_after clock ds
ticks-later clock [] h = omega arith
ticks-later clock (d ∷ ds) h =
    let more : d.event.stamp ≤ clock_after d.event.stamp ds = ticks-later d.event.stamp ds h.1 in
    let on : clock < d.event.stamp = below d.taken h.0.event in omega arith
  where
    below : (o : Option StampedItem) → ticked clock o ≤ d.event.stamp → clock < d.event.stamp
    below None e = omega arith
    below (Some x) e = omega arith

puts-early : (late clock : ℕ) (ds : List Deed) → Ticks clock ds → clock_after clock ds ≤ late → AllByRecursion (λ d. AllByRecursion (λ x. x.stamp ≤ late) (option_to_list d.put)) ds
puts-early late clock [] h low = tt
puts-early late clock (d ∷ ds) h low =
    let more : d.event.stamp ≤ clock_after d.event.stamp ds = ticks-later d.event.stamp ds h.1 in
    (one d.put h.0.put, puts-early late d.event.stamp ds h.1 low)
  where
    one : (o : Option StampedItem) → IfSome o (λ x. x.stamp ≡ d.event.stamp) → AllByRecursion (λ x. x.stamp ≤ late) (option_to_list o)
    one None e = tt
    one (Some x) e =
        let more : d.event.stamp ≤ clock_after d.event.stamp ds = ticks-later d.event.stamp ds h.1 in
        let same : x.stamp ≡ d.event.stamp = e in
        let here : x.stamp ≤ late = omega arith in (here, tt)

-- ---- nothing came where nothing was done

came-here : (b : Bool) (c : Came) → b ≡ true → map (λ (c : Came). c.item) (cond b (c ∷ []) []) ≡ [] → ⊥
came-here true c is e = cc
came-here false c is e = cc

no-aside : (code : ProgramTable) (from n : ℕ) (came : List Came) (o : Option Item) → came ≡ [] → IfSome o (λ x. from < n) → (from < n → came_on from (came ++ came_from code from o) ≡ []) → o ≡ None
no-aside code from n came None none within got = refl
no-aside code from n came (Some x) none within got =
    let c : Came = record { from = from; item = item_of code x } in
    let empty : came_on from (c ∷ []) ≡ [] = subst (λ (l : List Came). came_on from (l ++ c ∷ []) ≡ []) none (got within) in
    absurd (came-here (from == from) c (eq-eqb from from refl) empty)

no-deeds : (ds : List Deed) → map (λ (d : Deed). d.event) ds ≡ [] → ds ≡ []
no-deeds ds e = unmapped (λ (d : Deed). d.event) ds e

module _ {P R : Type 0} {g : Port.Ghosts P R Item} where
  pub free_of : (xs ys : List (Seat P)) (i j : ℕ) (x y : Seat P) (a b : P) → AreLinked g xs → slice_get xs i ≡ Some x → slice_get xs j ≡ Some y
      → slice_get ys i ≡ Some (with_port x a) → slice_get ys j ≡ Some (with_port y b) → g.room a (g.site y.port) ≡ PLACES - length (g.known b (g.site x.port)) → IsFree g ys i j
  free_of xs ys i j x y a b linked at_i at_j is_i is_j free = λ s t at_s at_t none zero.
      let first : with_port x a ≡ s = some_is (slice_get ys i) (with_port x a) s is_i at_s in
      let second : with_port y b ≡ t = some_is (slice_get ys j) (with_port y b) t is_j at_t in
      let from : g.site x.port ≡ i = (linked.placed i x at_i).0 in
      let to : g.site y.port ≡ j = (linked.placed j y at_j).0 in
      let known : g.known b i ≡ [] = ap (λ (v : Seat P). g.known v.port i) second ∙ none in
      let room : g.room a j ≡ 0 = ap (λ (v : Seat P). g.room v.port j) first ∙ zero in
      let is : g.room a j ≡ PLACES - length (g.known b i) = ap (g.room a) (sym to) ∙ free ∙ ap (λ (m : ℕ). PLACES - length (g.known b m)) from in
      let full : 0 ≡ PLACES = sym room ∙ is ∙ ap (λ (l : List Item). PLACES - length l) known in
      absurd (omega arith)

  -- what is on the links stays where no port has sent or got anything
  pub clear_still : {xs ys : List (Seat P)} → AllStill g xs ys → AreClear g xs → AreClear g ys
  clear_still {xs} {ys} still clear = record {
    got = λ i j s t at_i at_j.
        let a = still.each i s at_i in let b = still.each j t at_j in
        b.still.got_same i ∙ clear.got i j a.before b.before a.was b.was ∙ sym (a.still.sent_same j);
    aside = λ i s at. let a = still.each i s at in a.still.aside_same ∙ clear.aside i a.before a.was;
  }

  pub clear_same : {xs ys : List (Seat P)} → AllHoldSame xs ys → AreClear g xs → AreClear g ys
  clear_same {xs} {ys} same clear = record {
    got = λ i j s t at_i at_j.
        let a = there_too ys xs i s (sym same.count) at_i in let b = there_too ys xs j t (sym same.count) at_j in
        let p = same.each i a.0 s a.1 at_i in let q = same.each j b.0 t b.1 at_j in
        ap (λ (v : P). g.got v i) q.port ∙ clear.got i j a.0 b.0 a.1 b.1 ∙ ap (λ (v : P). g.sent v j) (sym p.port);
    aside = λ i s at. let a = there_too ys xs i s (sym same.count) at in (same.each i a.0 s a.1 at).aside ∙ clear.aside i a.0 a.1;
  }

  pub clear_alone : (i : ℕ) {xs : List (Seat P)} {a : Seat P} (c : Seat P) → slice_get xs i ≡ Some a → c.port ≡ a.port → c.aside ≡ a.aside → AreClear g xs → AreClear g (set xs i c)
  clear_alone i {xs} {a} c at port aside clear = record {
    got = λ k j s t at_k at_j.
        let x = before k s at_k in let y = before j t at_j in
        ap (λ (v : P). g.got v k) y.2 ∙ clear.got k j x.0 y.0 x.1 y.1 ∙ ap (λ (v : P). g.sent v j) (sym x.2);
    aside = λ k s at_k. let x = before k s at_k in x.3 ∙ clear.aside k x.0 x.1;
  }
    where
      before : (k : ℕ) (s : Seat P) → slice_get (set xs i c) k ≡ Some s → (b : Seat P) × (slice_get xs k ≡ Some b) × (s.port ≡ b.port) × (s.aside ≡ b.aside)
      before k s is = elim (replaced xs i k a c s at is) [
        | inl w ↦ (a, subst (λ (m : ℕ). slice_get xs m ≡ Some a) (sym w.0) at, ap (λ (v : Seat P). v.port) w.1 ∙ port, ap (λ (v : Seat P). v.aside) w.1 ∙ aside)
        | inr w ↦ (s, w.1, refl, refl)
      ]

  -- then nothing waits on a link
  pub none_known : {xs : List (Seat P)} → AreClear g xs → (i j : ℕ) → IsSettled g xs i j → (s t : Seat P) → slice_get xs i ≡ Some s → slice_get xs j ≡ Some t → g.known t.port i ≡ []
  none_known {xs} clear i j settled s t at_i at_j =
      append_cancel_left (g.got t.port i) (g.known t.port i) [] ((settled s t at_i at_j).all ∙ sym (clear.got i j s t at_i at_j) ∙ sym (append-nil (g.got t.port i)))

  module _ {code : ProgramTable} where
    -- an item in a line was put out no later than the clock
    pub due_early : {start : Holding} {s : Seat P} → Kept g code start s → (to : ℕ) (item : Item) (later : List Item) → queue_at s.site.outgoing to ≡ item ∷ later → item.stamp ≤ s.site.clock
    due_early {start} {s} kept to item later first =
        let early : AllByRecursion (λ x. x.stamp ≤ s.site.clock) (put_for to kept.deeds) =
        all_filter (λ (x : StampedItem). x.stamp ≤ s.site.clock) (λ x. x.item.receiver == to) (flat_map (λ (d : Deed). option_to_list d.put) kept.deeds)
        (all_flat_map (λ (x : StampedItem). x.stamp ≤ s.site.clock) (λ (d : Deed). option_to_list d.put) kept.deeds (puts-early s.site.clock 0 kept.deeds kept.account.run.ticks kept.clock)) in
        let all : AllByRecursion (λ x. x.stamp ≤ s.site.clock) (shown code (g.sent s.port to) ++ shown code (item ∷ later)) =
        subst (AllByRecursion (λ x. x.stamp ≤ s.site.clock))
        (sym (kept.put to) ∙ map-append (item_of code) (g.sent s.port to) (queue_at s.site.outgoing to) ∙ ap (λ q. shown code (g.sent s.port to) ++ shown code q) first) early in
        (all_second (λ (x : StampedItem). x.stamp ≤ s.site.clock) (shown code (g.sent s.port to)) (shown code (item ∷ later)) all).0

    module _ {start : Holding} {s : Seat P} (kept : Kept g code start s) (none : s.site.history.events ≡ []) where
      idle : kept.deeds ≡ []
      idle = no-deeds kept.deeds (sym kept.events ∙ none)

      none_sent : (to : ℕ) → g.sent s.port to ≡ []
      none_sent to =
          let all : shown code (g.sent s.port to ++ queue_at s.site.outgoing to) ≡ [] = kept.put to ∙ ap (put_for to) idle in
          front_nil (g.sent s.port to) (queue_at s.site.outgoing to) (unmapped (item_of code) (g.sent s.port to ++ queue_at s.site.outgoing to) all)

      none_came : kept.came ≡ []
      none_came = unmapped (λ (c : Came). c.item) kept.came (kept.account.took ∙ ap (flat_map (λ (d : Deed). option_to_list d.taken)) idle)

    -- before any event nothing was sent
    pub clear_first : {budget : ℕ} {xs : List (Seat P)} → Stand g code budget xs → ((i : ℕ) (s : Seat P) → slice_get xs i ≡ Some s → s.site.history.events ≡ []) → AreClear g xs
    clear_first {budget} {xs} stand none = record {
      got = λ i j s t at_i at_j. nothing-got i j s t at_i at_j ∙ sym (none_sent (stand.seats.each i s at_i).kept (none i s at_i) j);
      aside = λ j t at_j.
          let kept = (stand.seats.each j t at_j).kept in
          no-aside code kept.from (length code.sites) kept.came t.aside (none_came kept (none j t at_j)) kept.within
          (λ less.
          let lx : kept.from < length xs = subst (λ (m : ℕ). kept.from < m) (sym stand.seats.count) less in
          let s = seat-at xs kept.from lx in
          sym (kept.got kept.from) ∙ ap (shown code) (nothing-got kept.from j s.0 t s.1 at_j));
    }
      where
        nothing-got : (i j : ℕ) (s t : Seat P) → slice_get xs i ≡ Some s → slice_get xs j ≡ Some t → g.got t.port i ≡ []
        nothing-got i j s t at_i at_j =
            front_nil (g.got t.port i) (g.known t.port i)
            (((stand.settled.each j (slice_get_within xs j t at_j)).settled i s t at_i at_j).all ∙ none_sent (stand.seats.each i s at_i).kept (none i s at_i) j)

        seat-at : (xs : List (Seat P)) (i : ℕ) → i < length xs → (s : Seat P) × (slice_get xs i ≡ Some s)
        seat-at [] i less = absurd (omega arith)
        seat-at (x ∷ xs) zero less = (x, refl)
        seat-at (x ∷ xs) (suc i) less = seat-at xs i (omega arith)
