-- Ports of which each sits where its site's seat was are linked, each with each, and nothing went through them.
use Rattle.std.proofs.Common.{◌≡◌, ℕ, ◌+◌, ◌<◌, ◌≤◌, List, [], ◌∷◌, ◌++◌, length, refl, sym, ◌∙◌, ap, subst, arith, Some, inl, inr}
use Rattle.std.specs.Prelude.{slice_get}
use Rattle.std.proofs.lemmas.List.{length_push}
use Rattle.std.proofs.lemmas.Option.{slice_get_within, slice_get_cases}
use Rattle.crossbeam_queue.specs.Passes.{view}
use Rattle.site_links.specs.declared.places.TheConstants.{PLACES}
use Rattle.site_links.specs.Words.{IsFullMake, IsUnused}
use Rattle.site_links.specs.Seats.{read}
use Rattle.site_links.proofs.Rows.{get-push_cases}
use Rattle.agent_move.specs.declared.item.Item.{Item}
use Rattle.np_inbox_rule.specs.Rule.{items_of}
use Rattle.np_inbox_rule.specs.Steps.{got_in, told_in}
use Rattle.site_inboxes.specs.declared.ends.Inbox.{Inbox}
use Rattle.site_inboxes.specs.declared.ends.Outlet.{Outlet}
use Rattle.crew_inboxes.specs.declared.making.Seat.{Seat}
use Rattle.crew_inboxes.specs.declared.inboxes.Inboxes.{Inboxes}
use Rattle.crew_inboxes.specs.Ways.{from_of, sent_by, taken_of, waiting_of, site_in, among_in, sent_for, got_from, known_from, room_for, Linked}
use Rattle.crew_inboxes.specs.Seats.{IsFreshWay, Woven, Sits, Seated}
use Rattle.crew_inboxes.proofs.Weaving.{some_at}

pub seated_more : (m : ℕ) (seats : List Seat) (ports ports' : List Inboxes) (p : Inboxes) → Seated m seats ports → ports' ≡ ports ++ p ∷ [] → Sits seats m p → Seated (m + 1) seats ports'
seated_more m seats ports ports' p h e s = record {
  count = ap length e ∙ (length_push ports p ∙ ap (λ j. j + 1) h.count);
  sit = λ i q f. elim (get-push_cases ports i p q (subst (λ (l : List Inboxes). slice_get l i ≡ Some q) e f)) [
    | inl w ↦ h.sit i q w
    | inr w ↦ subst (λ (j : ℕ). Sits seats j q) (sym (w.0 ∙ h.count)) (subst (λ (o : Inboxes). Sits seats m o) (sym w.1) s)
  ];
}

module _ (n : ℕ) (seats : List Seat) (woven : Woven n n seats) where
  module _ (i : ℕ) (p : Inboxes) (s : Sits seats i p) where
    below : i < n
    below = omega (arith, woven.count, slice_get_within seats i s.seat s.is)

    pub sits_many : length p.ways.items ≡ n
    sits_many = ap (λ v. length v.items) s.ways_are ∙ woven.long i s.seat s.is below

    -- a way of the port leads to the seat of its place
    way_to : (k : ℕ) (way : Outlet Item) → slice_get p.ways.items k ≡ Some way → (t : Seat) × (slice_get seats k ≡ Some t) × IsFreshWay n i t way
    way_to k way e =
        let t = some_at seats k (omega (arith, woven.count, sits_many, slice_get_within p.ways.items k way e)) in
        (t.0, t.1, woven.fresh i k s.seat t.0 way s.is t.1 (ap (λ v. slice_get v.items k) (sym s.ways_are) ∙ e))

    got_none : got_in (view p.inbox.pass) ≡ []
    got_none = ap (λ (o : Inbox Item). got_in (view o.pass)) s.inbox_is ∙ (woven.unused i s.seat s.is).got_none

    told_none : (k : ℕ) → told_in (view p.inbox.pass) k ≡ []
    told_none k = ap (λ (o : Inbox Item). told_in (view o.pass) k) s.inbox_is ∙ (woven.unused i s.seat s.is).told_none k

    taken_none : (k : ℕ) → taken_of p.inbox k ≡ []
    taken_none k = ap (items_of from_of k) got_none

    waiting_none : (k : ℕ) → waiting_of p.inbox k ≡ []
    waiting_none k = rw (taken_none k, told_none k) refl

    read_ways : {X : Type 0} (f : Outlet Item → X) (d v : X) (k : ℕ) → ((t : Seat) (way : Outlet Item) → IsFreshWay n i t way → f way ≡ v) → (length p.ways.items ≤ k → d ≡ v) → read f d (slice_get p.ways.items k) ≡ v
    read_ways f d v k here past =
        elim (slice_get_cases p.ways.items k).1 [
          | inl w ↦ let t = way_to k w.0 w.2 in rw w.2 (here t.0 w.0 t.2)
          | inr w ↦ rw w.1 (past w.0)
        ]

    pub sits_unused : IsUnused n (sent_for p) (got_from p) (known_from p) (room_for p)
    sits_unused = record {
      sent_none = λ k. read_ways (λ (way : Outlet Item). sent_by way) [] [] k (λ t way f. f.sender.sent_none) (λ le. refl);
      got_none = taken_none;
      known_none = waiting_none;
      all_free = λ k lt. read_ways (λ (way : Outlet Item). way.spare) 0 PLACES k (λ t way f. f.all_free) (λ le. absurd (omega (arith, sits_many)));
    }

  pub sits_linked : (i j : ℕ) (p q : Inboxes) → Sits seats i p → Sits seats j q → Linked p q
  sits_linked i j p q s t =
      let way = some_at p.ways.items q.site (omega (arith, sits_many i p s, t.site_is, below j q t)) in
      let back = some_at q.ways.items p.site (omega (arith, sits_many j q t, s.site_is, below i p s)) in
      let out = woven.fresh i j s.seat t.seat way.0 s.is t.is (ap (λ v. slice_get v.items j) (sym s.ways_are) ∙ subst (λ (k : ℕ). slice_get p.ways.items k ≡ Some way.0) t.site_is way.1) in
      let in' = woven.fresh j i t.seat s.seat back.0 t.is s.is (ap (λ v. slice_get v.items i) (sym t.ways_are) ∙ subst (λ (k : ℕ). slice_get q.ways.items k ≡ Some back.0) s.site_is back.1) in
      let got = ap length (taken_none j q t p.site) in let last = ap length out.sender.last_none in let none = in'.none_fresh in
      record {
        way = way.0;
        back = back.0;
        way_is = way.1;
        back_is = back.1;
        joined = out.joined ∙ ap (λ (o : Inbox Item). o.pass.table_id) (sym t.inbox_is);
        counts = λ le. omega (arith, got, last, none);
        rests = λ put fresh. record {
          rest = record { all_taken = taken_none j q t p.site ∙ sym out.sender.sent_none; none_known = waiting_none j q t p.site; all_free = out.all_free };
          last = out.sender.last_none ∙ sym (taken_none j q t p.site);
        };
      }

  pub full_from_seated : (ports : List Inboxes) → Seated n seats ports → IsFullMake site_in among_in Linked n ports
  full_from_seated ports h = record {
    count = h.count;
    places = λ i p e. let s = h.sit i p e in (s.site_is, sits_many i p s);
    pairs = λ i j p q e f. sits_linked i j p q (h.sit i p e) (h.sit j q f);
  }

  pub unused_from_seated : (ports : List Inboxes) → Seated n seats ports → (i : ℕ) (p : Inboxes) → slice_get ports i ≡ Some p → IsUnused n (sent_for p) (got_from p) (known_from p) (room_for p)
  unused_from_seated ports h i p e = sits_unused i p (h.sit i p e)
