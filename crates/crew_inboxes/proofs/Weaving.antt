-- How seats come to have all their ways.
use Rattle.std.proofs.Common.{◌≡◌, ◌≢◌, ◌⊎◌, ℕ, ◌+◌, ◌<◌, List, [], length, set, refl, sym, ◌∙◌, ap, subst, arith, Some, inl, inr, length-set}
use Rattle.std.specs.Prelude.{slice_get}
use Rattle.std.proofs.lemmas.List.{length_push}
use Rattle.std.proofs.lemmas.Option.{slice_get_within, slice_get_cases}
use Rattle.std.proofs.lemmas.Bool.Decides.{eqb_tells}
use Rattle.crossbeam_queue.specs.Passes.{view}
use Rattle.np_syntax.proofs.Options.{some_is}
use Rattle.site_links.proofs.Rows.{get-set_same, get-set_other, get-push_cases}
use Rattle.agent_move.specs.declared.item.Item.{Item}
use Rattle.np_inbox_rule.specs.declared.views.View.{View}
use Rattle.site_inboxes.specs.Views.{number_in, sites_in}
use Rattle.site_inboxes.specs.Fresh.{IsUnusedView, IsOneMore, IsSplitOff}
use Rattle.site_inboxes.specs.declared.ends.Inbox.{Inbox}
use Rattle.site_inboxes.specs.declared.ends.Outlet.{Outlet}
use Rattle.crew_inboxes.specs.declared.making.Seat.{Seat}
use Rattle.crew_inboxes.specs.Seats.{IsFreshWay, HasMade, SeatAdded, Begun, WayAdded, Woven, Was, Row}

pub some_at : {T : Type 0} (xs : List T) (k : ℕ) → k < length xs → (x : T) × (slice_get xs k ≡ Some x)
some_at xs k h = elim (slice_get_cases xs k).1 [ inl w ↦ (w.0, w.2) | inr w ↦ absurd (omega (arith, w.0)) ]

-- what stands in a place is what was written there, or what stood there
pub set_cases : {T : Type 0} (xs : List T) (i k : ℕ) (y v : T) → i < length xs → slice_get (set xs i y) k ≡ Some v → ((k ≡ i) × (v ≡ y)) ⊎ ((k ≢ i) × (slice_get xs k ≡ Some v))
set_cases xs i k y v lt h =
    elim (eqb_tells k i) [
      | inl w ↦ inl (w.1, some_is (slice_get (set xs i y) i) v y (subst (λ (m : ℕ). slice_get (set xs i y) m ≡ Some v) w.1 h) (get-set_same xs i y lt))
      | inr w ↦ inr (w.1, sym (get-set_other xs i k y w.1) ∙ h)
    ]

pub begun_more : (n m : ℕ) (seats seats' : List Seat) → Begun n m seats → SeatAdded n seats seats' → Begun n (m + 1) seats'
begun_more n m seats seats' h a =
    let cases : (i : ℕ) (s : Seat) → slice_get seats' i ≡ Some s → (slice_get seats i ≡ Some s) ⊎ ((i ≡ length seats) × (s ≡ a.made)) =
    λ i s e. get-push_cases seats i a.made s (subst (λ (l : List Seat). slice_get l i ≡ Some s) a.is e) in
    record {
      count = ap length a.is ∙ (length_push seats a.made ∙ ap (λ j. j + 1) h.count);
      unused = λ i s e. elim (cases i s e) [ inl w ↦ h.unused i s w | inr w ↦ subst (λ (o : Seat). HasMade n 0 o) (sym w.1) a.unused ];
      none = λ i s e. elim (cases i s e) [ inl w ↦ h.none i s w | inr w ↦ subst (λ (o : Seat). o.ways.items ≡ []) (sym w.1) a.none ];
    }

pub woven_begun : (n m : ℕ) (seats : List Seat) → Begun n m seats → m ≡ n → Woven n 0 seats
woven_begun n m seats h e = record {
  count = h.count ∙ e;
  unused = h.unused;
  long = λ i s f lt. absurd (omega arith);
  fresh = λ i j s t way f g w. absurd (omega (arith, slice_get_within s.ways.items j way w, ap length (h.none i s f)));
}

made_more : (n k : ℕ) (v w : View Item) → IsUnusedView n k v → IsOneMore v w → IsUnusedView n (k + 1) w
made_more n k v w u o = record {
  role = o.role;
  sites_are = o.sites_same ∙ u.sites_are;
  made_are = o.one_more ∙ ap (λ j. j + 1) u.made_are;
  got_none = o.got_same ∙ u.got_none;
  told_none = λ j. o.told_same j ∙ u.told_none j;
}

-- the way that is split off an inbox is the next site's
split_fresh : (n k : ℕ) (s s' : Seat) (way : Outlet Item) → HasMade n k s → IsSplitOff s.inbox s'.inbox way → IsFreshWay n k s' way
split_fresh n k s s' way u p = record {
  joined = p.queue_is ∙ sym p.queue_same;
  sender = record {
    role = p.sender.role;
    sites_are = p.sender.sites_are ∙ u.sites_are;
    number_is = p.sender.number_is ∙ u.made_are;
    sent_none = p.sender.sent_none;
    last_none = p.sender.last_none;
  };
  all_free = p.all_free;
  none_fresh = p.none_fresh;
  none_put = p.none_put;
}

-- a way leads to a seat still where the seat has the same queue
fresh_to : (n i : ℕ) (t t' : Seat) (way : Outlet Item) → IsFreshWay n i t way → t'.inbox.pass.table_id ≡ t.inbox.pass.table_id → IsFreshWay n i t' way
fresh_to n i t t' way f e = record { joined = f.joined ∙ sym e; sender = f.sender; all_free = f.all_free; none_fresh = f.none_fresh; none_put = f.none_put }

pub row_none : (n k : ℕ) (seats : List Seat) → Woven n k seats → Row n k 0 seats seats []
row_none n k seats h = record {
  count = h.count;
  low = λ i s e lt. absurd (omega arith);
  high = λ i s e le. h.unused i s e;
  was = λ i s e. record { old = s; is = e; ways_same = refl; queue_same = refl };
  long = refl;
  fresh = λ i s way e f. cc;
}

pub row_more : (n k m : ℕ) (before seats : List Seat) (ways ways' : List (Outlet Item)) (s s' : Seat) → Row n k m before seats ways → slice_get seats m ≡ Some s → WayAdded ways ways' s s'
    → Row n k (m + 1) before (set seats m s') ways'
row_more n k m before seats ways ways' s s' h at a =
    let lt = slice_get_within seats m s at in
    let made : HasMade n k s = h.high m s at (omega arith) in
    let cases : (i : ℕ) (v : Seat) → slice_get (set seats m s') i ≡ Some v → ((i ≡ m) × (v ≡ s')) ⊎ ((i ≢ m) × (slice_get seats i ≡ Some v)) = λ i v e. set_cases seats m i s' v lt e in
    let o = h.was m s at in
    let was' : Was before m s' = record { old = o.old; is = o.is; ways_same = a.ways_same ∙ o.ways_same; queue_same = a.split.queue_same ∙ o.queue_same } in
    record {
      count = length-set seats m s' ∙ h.count;
      low = λ i v e l. elim (cases i v e) [
        | inl w ↦ subst (λ (x : Seat). HasMade n (k + 1) x) (sym w.1) (made_more n k (view s.inbox.pass) (view s'.inbox.pass) made a.split.one_more)
        | inr w ↦ h.low i v w.1 (omega arith)
      ];
      high = λ i v e l. elim (cases i v e) [ inl w ↦ absurd (omega (arith, w.0)) | inr w ↦ h.high i v w.1 (omega arith) ];
      was = λ i v e. elim (cases i v e) [
        | inl w ↦ subst (λ (j : ℕ). Was before j v) (sym w.0) (subst (λ (x : Seat). Was before m x) (sym w.1) was')
        | inr w ↦ h.was i v w.1
      ];
      long = ap length a.is ∙ (length_push ways a.way ∙ ap (λ j. j + 1) h.long);
      fresh = λ i v way e f. elim (get-push_cases ways i a.way way (subst (λ (l : List (Outlet Item)). slice_get l i ≡ Some way) a.is f)) [
        | inl u ↦ elim (cases i v e) [ inl w ↦ absurd (omega (arith, w.0, h.long, slice_get_within ways i way u)) | inr w ↦ h.fresh i v way w.1 u ]
        | inr u ↦ elim (cases i v e) [
          | inl w ↦ subst (λ (x : Seat). IsFreshWay n k x way) (sym w.1) (subst (λ (x : Outlet Item). IsFreshWay n k s' x) (sym u.1) (split_fresh n k s s' a.way made a.split))
          | inr w ↦ absurd (w.0 (u.0 ∙ h.long))
        ]
      ];
    }

-- the ways of one more site
pub woven_more : (n k m : ℕ) (before seats : List Seat) (ways : List (Outlet Item)) (s s' : Seat) → Woven n k before → Row n k m before seats ways → m ≡ n → k < n → slice_get seats k ≡ Some s
    → s'.inbox ≡ s.inbox → s'.ways.items ≡ ways → Woven n (k + 1) (set seats k s')
woven_more n k m before seats ways s s' h r full lt at inbox items =
    let cases : (i : ℕ) (v : Seat) → slice_get (set seats k s') i ≡ Some v → ((i ≡ k) × (v ≡ s')) ⊎ ((i ≢ k) × (slice_get seats i ≡ Some v)) = λ i v e. set_cases seats k i s' v (omega (arith, r.count)) e in
    let queue : (j : ℕ) (t : Seat) → slice_get (set seats k s') j ≡ Some t → (t₀ : Seat) × (slice_get seats j ≡ Some t₀) × (t.inbox.pass.table_id ≡ t₀.inbox.pass.table_id) =
    λ j t e. elim (cases j t e) [
      | inl w ↦ (s, subst (λ (i : ℕ). slice_get seats i ≡ Some s) (sym w.0) at, ap (λ (o : Seat). o.inbox.pass.table_id) w.1 ∙ ap (λ (o : Inbox Item). o.pass.table_id) inbox)
      | inr w ↦ (t, w.1, refl)
    ] in
    record {
      count = length-set seats k s' ∙ r.count;
      unused = λ i v e. elim (cases i v e) [
        | inl w ↦ subst (λ (o : Seat). HasMade n (k + 1) o) (sym w.1) (subst (λ (o : Inbox Item). IsUnusedView n (k + 1) (view o.pass)) (sym inbox) (r.low k s at (omega arith)))
        | inr w ↦ r.low i v w.1 (omega (arith, full, r.count, slice_get_within seats i v w.1))
      ];
      long = λ i v e l. elim (cases i v e) [
        | inl w ↦ ap (λ (o : Seat). length o.ways.items) w.1 ∙ (ap length items ∙ (r.long ∙ full))
        | inr w ↦ let was = r.was i v w.1 in ap (λ o. length o.items) was.ways_same ∙ h.long i was.old was.is (omega arith)
      ];
      fresh = λ i j v t way e f g.
          let q = queue j t f in
          elim (cases i v e) [
            | inl w ↦
                let there : slice_get ways j ≡ Some way = subst (λ (l : List (Outlet Item)). slice_get l j ≡ Some way) (ap (λ (o : Seat). o.ways.items) w.1 ∙ items) g in
                fresh_to n i q.0 t way (subst (λ (x : ℕ). IsFreshWay n x q.0 way) (sym w.0) (r.fresh j q.0 way q.1 there)) q.2
            | inr w ↦
                let was = r.was i v w.1 in let to = r.was j q.0 q.1 in
                fresh_to n i to.old t way (h.fresh i j was.old to.old way was.is to.is (subst (λ (l : List (Outlet Item)). slice_get l j ≡ Some way) (ap (λ o. o.items) was.ways_same) g)) (q.2 ∙ to.queue_same)
          ];
    }

-- what a seat is, once all have their ways
pub woven_number : (n i : ℕ) (seats : List Seat) (s : Seat) → Woven n n seats → slice_get seats i ≡ Some s → (k : ℕ) (way : Outlet Item) → slice_get s.ways.items k ≡ Some way → number_in (view way.pass) ≡ i
woven_number n i seats s h e k way f =
    let t = some_at seats k (omega (arith, h.count, h.long i s e (omega (arith, h.count, slice_get_within seats i s e)), slice_get_within s.ways.items k way f)) in
    (h.fresh i k s t.0 way e t.1 f).sender.number_is

pub woven_sites : (n i : ℕ) (seats : List Seat) (s : Seat) → Woven n n seats → slice_get seats i ≡ Some s → sites_in (view s.inbox.pass) ≡ length s.ways.items
woven_sites n i seats s h e = (h.unused i s e).sites_are ∙ sym (h.long i s e (omega (arith, h.count, slice_get_within seats i s e)))
