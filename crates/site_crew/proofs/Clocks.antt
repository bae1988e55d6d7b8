-- No stamp of a crew is above the number of all its events.
use Rattle.std.proofs.Common.{◌≡◌, ◌<◌, ◌≤◌, ◌+◌, ◌⊎◌, inl, inr, ⊎_elim, ℕ, zero, suc, Bool, true, false, cond, nat_le, max, set, ◌==◌, List, [], ◌∷◌, ◌++◌, length, flat_map, get_or, Option, None, Some, IfSome, option_to_list, refl, sym, ap, subst, ◌∙◌, arith, length-append}
use Rattle.std.specs.Prelude.{slice_get}
use Rattle.std.specs.List.{AllByRecursion}
use Rattle.std.proofs.lemmas.Bool.Decides.{nat_tests}
use Rattle.std.proofs.lemmas.List.{length-map}
use Rattle.std.proofs.lemmas.Option.{slice_get_within, slice_get-get_or}
use Rattle.np_syntax.specs.declared.event.Event.{Event}
use Rattle.np_syntax.proofs.Options.{some_is}
use Rattle.stamp_history.specs.declared.stamped.Stamped.{Stamped}
use Rattle.stamp_history.specs.Histories.{Recorded}
use Rattle.run_merge.specs.declared.rank.Ranked.{Ranked}
use Rattle.run_merge.specs.InOrder.{in_order, put_in}
use Rattle.run_merge.specs.Merged.{comes_before, events_of, merged, ranked}
use Rattle.run_merge.proofs.InOrder.{all_flat_map, all_in_order, all_map}
use Rattle.run_merge.proofs.Ranks.{ranks_order}
use Rattle.site_links.specs.declared.port.Port as Port
use Rattle.np_site_runs.specs.merged.Deeds.{Deed, StampedItem, Ticks, put_for}
use Rattle.np_site_runs.specs.merged.Elements.{Occurs}
use Rattle.np_site_runs.proofs.merged.Elements.{last-or_before, mapped-occurs, occurs-either, occurs-filter, occurs-first}
use Rattle.np_site_runs.proofs.merged.Linking.{all_first, all_second}
use Rattle.np_site_runs.proofs.merged.Merging.{all_unmap}
use Rattle.np_site_runs.proofs.merged.Moving.{below_or_not}
use Rattle.np_code.specs.Programs.{ProgramTable}
use Rattle.run_save.specs.following.Following.{AreNumbered, AreOf}
use Rattle.agent_move.specs.declared.item.Item.{Item}
use Rattle.agent_move.specs.Items.{item_of}
use Rattle.site_state.specs.Lines.{queue_at}
use Rattle.site_state.specs.Standings.{Standing}
use Rattle.site_turn.specs.declared.seat.Seat.{Seat}
use Rattle.site_turn.specs.Steady.{HasCome, IsOneMore, IsStampOf, IsSteady}
use Rattle.site_turn.specs.Turns.{HistoryGrows, Turned}
use Rattle.site_turn.proofs.Steady.{max_either, steady_same}
use Rattle.site_crew.specs.Clocks.{AreSteady, low_count, low_events}
use Rattle.site_crew.specs.Following.{AllRest, at_clock}
use Rattle.site_crew.specs.Links.{AllStill, AreSettled, Still}
use Rattle.site_crew.specs.Seats.{AllGrow, AreSeats, event_count, histories}

-- ---- counts

one-more : (stamp n : ℕ) → cond (nat_le stamp n) 1 0 ≤ cond (nat_le stamp (suc n)) 1 0
one-more stamp n = grind (arith, nat_tests)

one-now : (stamp n : ℕ) → stamp ≡ suc n → cond (nat_le stamp n) 1 0 + 1 ≤ cond (nat_le stamp (suc n)) 1 0
one-now stamp n is = grind (arith, nat_tests)

one-low : (stamp n : ℕ) → stamp ≤ n → 1 ≤ cond (nat_le stamp n) 1 0
one-low stamp n low = grind (arith, nat_tests)

one-most : (b : Bool) → cond b 1 0 ≤ 1
one-most true = omega arith
one-most false = omega arith

events-more : (n : ℕ) (es : List Stamped) → low_events n es ≤ low_events (suc n) es
events-more n [] = omega arith
events-more n (e ∷ es) = let a = one-more e.stamp n in let b = events-more n es in omega arith

events-now : (n : ℕ) (es : List Stamped) → IsStampOf (suc n) es → low_events n es + 1 ≤ low_events (suc n) es
events-now n [] h = absurd h
events-now n (e ∷ es) (inl is) = let a = one-now e.stamp n is in let b = events-more n es in omega arith
events-now n (e ∷ es) (inr h) = let a = one-more e.stamp n in let b = events-now n es h in omega arith

events-begin : (n : ℕ) (es fs : List Stamped) → low_events n es ≤ low_events n (es ++ fs)
events-begin n [] fs = omega arith
events-begin n (e ∷ es) fs = let b = events-begin n es fs in omega arith

events-most : (n : ℕ) (es : List Stamped) → low_events n es ≤ length es
events-most n [] = omega arith
events-most n (e ∷ es) = let a = one-most (nat_le e.stamp n) in let b = events-most n es in omega arith

events-all : (n : ℕ) (es : List Stamped) → AllByRecursion (λ e. e.stamp ≤ n) es → length es ≤ low_events n es
events-all n [] low = omega arith
events-all n (e ∷ es) low = let a = one-low e.stamp n low.0 in let b = events-all n es low.1 in omega arith

count-more : (n : ℕ) (hs : List Recorded) → low_count n hs ≤ low_count (suc n) hs
count-more n [] = omega arith
count-more n (h ∷ hs) = let a = events-more n h.events in let b = count-more n hs in omega arith

-- so it is for the greater of two numbers
pub count_later : (hs : List Recorded) (m n : ℕ) → m ≤ low_count m hs → n ≤ low_count n hs → max m n ≤ low_count (max m n) hs
count_later hs m n first second = by (max m n) (max_either m n)
  where
    by : (k : ℕ) → (k ≡ m) ⊎ (k ≡ n) → k ≤ low_count k hs
    by k (inl is) = subst (λ k. k ≤ low_count k hs) (sym is) first
    by k (inr is) = subst (λ k. k ≤ low_count k hs) (sym is) second

-- an event of one of the histories has the stamp
abbrev pub IsStampIn : ℕ → List Recorded → Type 0
IsStampIn m hs = Occurs (λ h. IsStampOf m h.events) hs

count-now : (n : ℕ) (hs : List Recorded) → IsStampIn (suc n) hs → low_count n hs + 1 ≤ low_count (suc n) hs
count-now n [] h = absurd h
count-now n (h ∷ hs) (inl is) = let a = events-now n h.events is in let b = count-more n hs in omega arith
count-now n (h ∷ hs) (inr is) = let a = events-more n h.events in let b = count-now n hs is in omega arith

count-most : (n : ℕ) (hs : List Recorded) → low_count n hs ≤ event_count hs
count-most n [] = omega arith
count-most n (h ∷ hs) = let a = events-most n h.events in let b = count-most n hs in omega arith

count-all : (n : ℕ) (hs : List Recorded) → AllByRecursion (λ h. AllByRecursion (λ e. e.stamp ≤ n) h.events) hs → event_count hs ≤ low_count n hs
count-all n [] low = omega arith
count-all n (h ∷ hs) low = let a = events-all n h.events low.0 in let b = count-all n hs low.1 in omega arith

pub count_grows : (n : ℕ) (hs ks : List Recorded) → AllGrow hs ks → low_count n hs ≤ low_count n ks
count_grows n [] ks grow = omega arith
count_grows n (h ∷ hs) [] grow = absurd (let e = grow.count in omega arith)
count_grows n (h ∷ hs) (k ∷ ks) grow =
    let first : HistoryGrows h k = grow.each 0 h (omega arith) in
    let begin : low_events n h.events ≤ low_events n k.events = subst (λ es. low_events n h.events ≤ low_events n es) (sym first.events.is) (events-begin n h.events first.events.rest) in
    let rest : low_count n hs ≤ low_count n ks = count_grows n hs ks (record { count = let e = grow.count in omega arith; each = λ i d less. grow.each (suc i) d (omega arith) }) in
    omega arith

-- ---- the merged history

module _ {X : Type 0} (before : X → X → Bool) where
  put-length : (x : X) (ys : List X) → length (put_in before x ys) ≡ suc (length ys)
  put-length x [] = refl
  put-length x (y ∷ ys) = by (before y x) (put-length x ys)
    where
      by : (t : Bool) → length (put_in before x ys) ≡ suc (length ys) → length (cond t (y ∷ put_in before x ys) (x ∷ y ∷ ys)) ≡ suc (suc (length ys))
      by true e = ap suc e
      by false e = refl

  order-length : (xs : List X) → length (in_order before xs) ≡ length xs
  order-length [] = refl
  order-length (x ∷ xs) = put-length x (in_order before xs) ∙ ap suc (order-length xs)

  put-all : (Q : X → Type 0) (x : X) (ys : List X) → AllByRecursion Q (put_in before x ys) → Q x × AllByRecursion Q ys
  put-all Q x [] all = (all.0, tt)
  put-all Q x (y ∷ ys) all = by (before y x) (put-all Q x ys) all
    where
      by : (t : Bool) → (AllByRecursion Q (put_in before x ys) → Q x × AllByRecursion Q ys) → AllByRecursion Q (cond t (y ∷ put_in before x ys) (x ∷ y ∷ ys))
          → Q x × (Q y × AllByRecursion Q ys)
      by true f h = let more = f h.1 in (more.0, (h.0, more.1))
      by false f h = h

  order-all : (Q : X → Type 0) (xs : List X) → AllByRecursion Q (in_order before xs) → AllByRecursion Q xs
  order-all Q [] all = tt
  order-all Q (x ∷ xs) all = let one = put-all Q x (in_order before xs) all in (one.0, order-all Q xs one.1)

joined-length : (hs : List Recorded) → length (flat_map events_of hs) ≡ event_count hs
joined-length [] = refl
joined-length (h ∷ hs) = length-append (events_of h) (flat_map events_of hs) ∙ ap (λ n. n + length (flat_map events_of hs)) (length-map h.events (ranked h.site)) ∙ ap (λ n. length h.events + n) (joined-length hs)

pub merged_length : (hs : List Recorded) → length (merged hs) ≡ event_count hs
merged_length hs = order-length comes_before (flat_map events_of hs) ∙ joined-length hs

joined-all : (n : ℕ) (hs : List Recorded) → AllByRecursion (λ r. r.rank.stamp ≤ n) (flat_map events_of hs) → AllByRecursion (λ h. AllByRecursion (λ e. e.stamp ≤ n) h.events) hs
joined-all n [] all = tt
joined-all n (h ∷ hs) all = (
  all_unmap (λ (r : Ranked Event). r.rank.stamp ≤ n) (ranked h.site) h.events (all_first (λ (r : Ranked Event). r.rank.stamp ≤ n) (events_of h) (flat_map events_of hs) all),
  joined-all n hs (all_second (λ (r : Ranked Event). r.rank.stamp ≤ n) (events_of h) (flat_map events_of hs) all),
)

numbered-low : (n : ℕ) (rs : List (Ranked Event)) (most : ℕ) → AreNumbered n rs → n + length rs ≤ most + 1 → AllByRecursion (λ r. r.rank.stamp ≤ most) rs
numbered-low n [] most are less = tt
numbered-low n (r ∷ rs) most are less = let is = are.0 in (omega arith, numbered-low (n + 1) rs most are.1 (omega arith))

-- where events were done, with the stamps 1, 2, 3 and so on, so many have stamps that are no greater than their number
pub count_of : (events : List Event) (hs : List Recorded) → AreOf events hs → length events ≤ low_count (length events) hs
count_of events hs of =
    let long : length (merged hs) ≡ length events = sym (length-map (merged hs) (λ (r : Ranked Event). r.item)) ∙ ap length of.items in
    let all = order-all comes_before (λ (r : Ranked Event). r.rank.stamp ≤ length events) (flat_map events_of hs) (numbered-low 1 (merged hs) (length events) of.stamps (omega arith)) in
    let few = count-all (length events) hs (joined-all (length events) hs all) in
    let same = merged_length hs in omega arith

-- ---- each stamp above a number has one below it

-- where this holds, and where so many events have stamps up to that number, no stamp is above the number of all events
above : (hs : List Recorded) (set : ℕ) → set ≤ low_count set hs → ((k : ℕ) → set < k → IsStampIn (suc k) hs → IsStampIn k hs)
    → (m : ℕ) → IsStampIn m hs → set < m → m ≤ low_count m hs
above hs set enough below zero is more = omega arith
above hs set enough below (suc k) is more =
    let now = count-now k hs is in
    ⊎_elim
    (λ last. let same : low_count set hs ≡ low_count k hs = ap (λ n. low_count n hs) last in omega arith)
    (λ lower. let rest = above hs set enough below k (below k lower is) lower in omega arith)
    (last-or_before set k more)

pub few_of : (hs : List Recorded) (set : ℕ) → set ≤ low_count set hs → ((k : ℕ) → set < k → IsStampIn (suc k) hs → IsStampIn k hs) → (m : ℕ) → IsStampIn m hs → m ≤ length (merged hs)
few_of hs set enough below m is =
    let long = merged_length hs in ⊎_elim
    (λ more. let up = above hs set enough below m is more in let most = count-most m hs in omega arith)
    (λ low. let most = count-most set hs in omega arith)
    (below_or_not set m)

all-stamps : (n : ℕ) (es : List Stamped) → ((m : ℕ) → IsStampOf m es → m ≤ n) → AllByRecursion (λ e. e.stamp ≤ n) es
all-stamps n [] f = tt
all-stamps n (e ∷ es) f = (f e.stamp (inl refl), all-stamps n es (λ m h. f m (inr h)))

each-history : (n : ℕ) (hs : List Recorded) → ((m : ℕ) → IsStampIn m hs → m ≤ n) → AllByRecursion (λ h. AllByRecursion (λ r. r.rank.stamp ≤ n) (events_of h)) hs
each-history n [] f = tt
each-history n (h ∷ hs) f = (
  all_map (λ (r : Ranked Event). r.rank.stamp ≤ n) (ranked h.site) h.events (all-stamps n h.events (λ m is. f m (inl is))),
  each-history n hs (λ m is. f m (inr is)),
)

pub all_few : (hs : List Recorded) → ((m : ℕ) → IsStampIn m hs → m ≤ length (merged hs)) → AllByRecursion (λ r. r.rank.stamp ≤ length (merged hs)) (merged hs)
all_few hs f =
    all_in_order comes_before ranks_order (λ (r : Ranked Event). r.rank.stamp ≤ length (merged hs)) (flat_map events_of hs)
    (all_flat_map (λ (r : Ranked Event). r.rank.stamp ≤ length (merged hs)) events_of hs (each-history (length (merged hs)) hs f))

-- ---- the seats

-- what stands in a place, and what stands in some place
stands-in : {P : Type 0} (m : ℕ) (xs : List (Seat P)) (i : ℕ) (s : Seat P) → slice_get xs i ≡ Some s → IsStampOf m s.site.history.events → IsStampIn m (histories xs)
stands-in m [] i s at h = absurd (let e = at in cc)
stands-in m (x ∷ xs) zero s at h = inl (subst (λ (v : Seat _). IsStampOf m v.site.history.events) (some_is (Some s) s x refl (sym at)) h)
stands-in m (x ∷ xs) (suc i) s at h = inr (stands-in m xs i s at h)

stands-at : {P : Type 0} (m : ℕ) (xs : List (Seat P)) → IsStampIn m (histories xs) → (i : ℕ) × (s : Seat P) × (slice_get xs i ≡ Some s) × IsStampOf m s.site.history.events
stands-at m [] h = absurd h
stands-at m (x ∷ xs) (inl h) = (0, x, refl, h)
stands-at m (x ∷ xs) (inr h) = let t = stands-at m xs h in (suc t.0, t.1, t.2, t.3)

-- one of the elements, of which this and that hold
at-once : {A : Type 0} (Q S : A → Type 0) (xs : List A) → AllByRecursion Q xs → Occurs S xs → (x : A) × Q x × S x
at-once Q S [] all h = absurd h
at-once Q S (x ∷ xs) all (inl h) = (x, all.0, h)
at-once Q S (x ∷ xs) all (inr h) = at-once Q S xs all.1 h

-- an item that was put has the stamp of an event
puts-stamp : (k clock : ℕ) (ds : List Deed) → Ticks clock ds → Occurs (λ x. x.stamp ≡ k) (flat_map (λ d. option_to_list d.put) ds) → Occurs (λ d. d.event.stamp ≡ k) ds
puts-stamp k clock [] ticks h = absurd h
puts-stamp k clock (d ∷ ds) ticks h = ⊎_elim
    (λ here. inl (by d.put ticks.0.put here))
    (λ later. inr (puts-stamp k d.event.stamp ds ticks.1 later))
    (occurs-either (λ (x : StampedItem). x.stamp ≡ k) (option_to_list d.put) (flat_map (λ (d : Deed). option_to_list d.put) ds) h)
  where
    by : (o : Option StampedItem) → IfSome o (λ x. x.stamp ≡ d.event.stamp) → Occurs (λ x. x.stamp ≡ k) (option_to_list o) → d.event.stamp ≡ k
    by None is h = absurd h
    by (Some x) is (inl same) = sym is ∙ same
    by (Some x) is (inr none) = absurd none

module _ {P R : Type 0} {g : Port.Ghosts P R Item} {code : ProgramTable} where
  -- an item that came has the stamp of an event of its sender
  sent-stamp : {budget : ℕ} {xs : List (Seat P)} → AreSeats g code budget xs → AreSettled g xs → (k i : ℕ) (s : Seat P) → slice_get xs i ≡ Some s → HasCome g code k s → IsStampIn k (histories xs)
  sent-stamp {budget} {xs} seats settled k i s at (u, less, h) =
      let low : u < length xs = subst (λ (m : ℕ). u < m) (sym seats.count) less in
      let t : Seat P = get_or xs u s in
      let from : slice_get xs u ≡ Some t = slice_get-get_or xs u s low in
      let kept = (seats.each u t from).kept in
      let sent : Occurs (λ (x : Item). x.stamp ≡ k) (g.sent t.port i) =
      subst (Occurs (λ (x : Item). x.stamp ≡ k)) (((settled.each i (slice_get_within xs i s at)).settled u t s from at).all) (occurs-first (λ (x : Item). x.stamp ≡ k) (g.got s.port u) (g.known s.port u) h) in
      let put : Occurs (λ (x : StampedItem). x.stamp ≡ k) (put_for i kept.deeds) =
      subst (Occurs (λ (x : StampedItem). x.stamp ≡ k)) (kept.put i)
      (mapped-occurs (λ (x : StampedItem). x.stamp ≡ k) (item_of code) (g.sent t.port i ++ queue_at t.site.outgoing i)
      (occurs-first (λ (x : Item). x.stamp ≡ k) (g.sent t.port i) (queue_at t.site.outgoing i) sent)) in
      let deed = puts-stamp k 0 kept.deeds kept.account.run.ticks
      (occurs-filter (λ (x : StampedItem). x.stamp ≡ k) (λ x. x.item.receiver == i) (flat_map (λ (d : Deed). option_to_list d.put) kept.deeds) put) in
      stands-in k xs u t from
      (subst (IsStampOf k) (sym kept.events) (mapped-occurs (λ (e : Stamped). e.stamp ≡ k) (λ (d : Deed). d.event) kept.deeds deed))

  below-it : {budget : ℕ} {xs : List (Seat P)} → AreSeats g code budget xs → AreSettled g xs → (steady : AreSteady g code xs) → (k : ℕ) → steady.set < k
      → IsStampIn (suc k) (histories xs) → IsStampIn k (histories xs)
  below-it {budget} {xs} seats settled steady k more is =
      let t = stands-at (suc k) xs is in
      let one = at-once (λ (e : Stamped). IsOneMore g code steady.set t.1 e.stamp) (λ e. e.stamp ≡ suc k) t.1.site.history.events (steady.each t.0 t.1 t.2).each t.3 in
      by one.0.stamp one.2 t.0 t.1 t.2 one.1
    where
      by : (stamp : ℕ) → stamp ≡ suc k → (i : ℕ) (s : Seat P) → slice_get xs i ≡ Some s → IsOneMore g code steady.set s stamp → IsStampIn k (histories xs)
      by stamp is i s at (inl low) = absurd (omega arith)
      by stamp is i s at (inr (j, next, inl own)) = let same : j ≡ k = omega arith in stands-in k xs i s at (subst (λ m. IsStampOf m s.site.history.events) same own)
      by stamp is i s at (inr (j, next, inr came)) = let same : j ≡ k = omega arith in sent-stamp seats settled k i s at (subst (λ m. HasCome g code m s) same came)

  pub stamps_few : {budget : ℕ} {xs : List (Seat P)} → AreSeats g code budget xs → AreSettled g xs → AreSteady g code xs
      → AllByRecursion (λ r. r.rank.stamp ≤ length (merged (histories xs))) (merged (histories xs))
  stamps_few {budget} {xs} seats settled steady =
      all_few (histories xs) (few_of (histories xs) steady.set steady.enough (below-it seats settled steady))

  -- nor is that of an event of one site
  pub stamp_few : {budget : ℕ} {xs : List (Seat P)} → AreSeats g code budget xs → AreSettled g xs → AreSteady g code xs → (i : ℕ) (s : Seat P) → slice_get xs i ≡ Some s
      → (m : ℕ) → IsStampOf m s.site.history.events → m ≤ event_count (histories xs)
  stamp_few {budget} {xs} seats settled steady i s at m is =
      subst (λ (n : ℕ). m ≤ n) (merged_length (histories xs))
      (few_of (histories xs) steady.set steady.enough (below-it seats settled steady) m (stands-in m xs i s at is))

  -- ---- the clocks go on

  still-steady : {set : ℕ} {a b : Seat P} → Still g a b → IsSteady g code set a → IsSteady g code set b
  still-steady {set} {a} {b} s h = steady_same (ap (λ (v : Standing). v.clock) s.site_same) (ap (λ (v : Standing). v.history.events) s.site_same)
      (λ k u is. subst (Occurs (λ (x : Item). x.stamp ≡ k)) (sym (s.got_same u)) is) h

  -- by turns, and the links settled
  pub steady_again : {xs ys zs : List (Seat P)} → AreSteady g code xs → AllGrow (histories xs) (histories zs)
      → ((k : ℕ) (c : Seat P) → slice_get ys k ≡ Some c → (b : Seat P) × (slice_get xs k ≡ Some b) × Turned g code b c) → AllStill g ys zs → AreSteady g code zs
  steady_again {xs} {ys} {zs} steady grow turned still = record {
    set = steady.set;
    enough = let a = count_grows steady.set (histories xs) (histories zs) grow in let b = steady.enough in omega arith;
    each = λ i s at.
        let b = still.each i s at in let a = turned i b.before b.was in
        still-steady b.still (a.2.steady steady.set (steady.each i a.0 a.1));
  }

  -- a greater number
  pub set_later : (set later : ℕ) {s : Seat P} → set ≤ later → IsSteady g code set s → IsSteady g code later s
  set_later set later {s} more h = record {
    clock = ⊎_elim (λ low. inl (omega arith)) (λ is. inr is) h.clock;
    each = weaker s.site.history.events h.each;
  }
    where
      weaker : (es : List Stamped) → AllByRecursion (λ e. IsOneMore g code set s e.stamp) es → AllByRecursion (λ e. IsOneMore g code later s e.stamp) es
      weaker [] all = tt
      weaker (e ∷ es) all = (⊎_elim (λ low. inl (omega arith)) (λ is. inr is) all.0, weaker es all.1)

  -- the clock was set forward
  pub caught_steady : (set later stamp : ℕ) (s : Seat P) → set ≤ later → stamp ≤ later → IsSteady g code set s → IsSteady g code later (at_clock s (max s.site.clock stamp))
  caught_steady set later stamp s more low h =
      let up = set_later set later more h in
      record { clock = by (s.site.clock) (max s.site.clock stamp) (max_either s.site.clock stamp) up.clock; each = up.each }
    where
      by : (m n : ℕ) → (n ≡ m) ⊎ (n ≡ stamp) → (m ≤ later) ⊎ IsStampOf m s.site.history.events → (n ≤ later) ⊎ IsStampOf n s.site.history.events
      by m n (inl same) (inl low) = inl (omega arith)
      by m n (inl same) (inr is) = inr (subst (λ k. IsStampOf k s.site.history.events) (sym same) is)
      by m n (inr same) h = inl (omega arith)

-- where none makes an event the histories stay
pub rest_histories : {P : Type 0} {late : ℕ} (xs ys : List (Seat P)) → AllRest late xs ys → histories ys ≡ histories xs
rest_histories [] [] rest = refl
rest_histories [] (y ∷ ys) rest = absurd (let e = rest.count in omega arith)
rest_histories (x ∷ xs) [] rest = absurd (let e = rest.count in omega arith)
rest_histories (x ∷ xs) (y ∷ ys) rest =
    let first : y.site.history ≡ x.site.history = (rest.each 0 x y refl refl).history in
    let more : histories ys ≡ histories xs = rest_histories xs ys (record { count = let e = rest.count in omega arith; each = λ i a b s t. rest.each (suc i) a b s t }) in
    ap (λ h. h ∷ histories ys) first ∙ ap (λ hs. x.site.history ∷ hs) more

-- setting a clock changes no history
pub caught_histories : {P : Type 0} (xs : List (Seat P)) (i : ℕ) (a : Seat P) (clock : ℕ) → slice_get xs i ≡ Some a → histories (set xs i (at_clock a clock)) ≡ histories xs
caught_histories [] i a clock at = absurd (let e = at in cc)
caught_histories (x ∷ xs) zero a clock at = ap (λ (v : Seat _). v.site.history ∷ histories xs) (some_is (Some a) a x refl (sym at))
caught_histories (x ∷ xs) (suc i) a clock at = ap (λ hs. x.site.history ∷ hs) (caught_histories xs i a clock at)
