-- What a port is linked with still, after one of its ways or its inbox changed.
use Rattle.std.proofs.Common.{◌≡◌, ◌≢◌, ℕ, ◌+◌, ◌-◌, ◌<◌, true, false, List, [], ◌∷◌, ◌++◌, length, set, refl, sym, ◌∙◌, ap, subst, arith, Some, inl, inr, length-set, length-append}
use Rattle.std.specs.Prelude.{slice_get}
use Rattle.std.proofs.Math.Logic.{∥∥₁_elim, ∥∥₁_map}
use Rattle.std.proofs.Props.{props}
use Rattle.std.proofs.lemmas.List.{append-nil}
use Rattle.std.proofs.lemmas.Option.{slice_get_within}
use Rattle.std.proofs.lemmas.Bool.{true≢false}
use Rattle.std.proofs.lemmas.Bool.Decides.{eqb_tells}
use Rattle.np_syntax.proofs.Numbers.{lt-prop}
use Rattle.np_syntax.proofs.Options.{some_is}
use Rattle.crossbeam_queue.specs.Passes.{view}
use Rattle.np_inbox_rule.specs.Steps.{sent_in, last_in}
use Rattle.site_links.specs.declared.places.TheConstants.{PLACES}
use Rattle.site_links.specs.Words.{IsAtRest, KeepsBut}
use Rattle.site_links.proofs.Rows.{get-set_same, get-set_other}
use Rattle.agent_move.specs.declared.item.Item.{Item}
use Rattle.site_inboxes.specs.Ends.{Counts}
use Rattle.site_inboxes.specs.declared.ends.Inbox.{Inbox}
use Rattle.site_inboxes.specs.declared.ends.Outlet.{Outlet}
use Rattle.crew_inboxes.specs.Ways.{last_by, sent_by, taken_of, waiting_of, site_in, among_in, IsIdle, Linked, KeepsPort, RestsUnless}
use Rattle.crew_inboxes.specs.declared.inboxes.Inboxes.{Inboxes}

-- the way that stands in a place now leads where the way led that stood there
record OutKept (b : Inboxes) (k : ℕ) (x : Outlet Item) : Type 0 where
  pub way : Outlet Item
  pub is : slice_get b.ways.items k ≡ Some way
  pub queue_same : way.pass.table_id ≡ x.pass.table_id
  pub last_same : last_by way ≡ last_by x
  pub rests : (got known : List Item) (fresh : ℕ) → RestsUnless got known x fresh → RestsUnless got known way fresh

-- and counts what was taken as well as that did
record InKept (a b : Inboxes) (k : ℕ) (x : Outlet Item) : Type 0 where
  pub way : Outlet Item
  pub is : slice_get b.ways.items k ≡ Some way
  pub counts : (last : List Item) → Counts (taken_of a.inbox k) last x.fresh → Counts (taken_of b.inbox k) last way.fresh
  pub rests : (to : Outlet Item) → RestsUnless (taken_of a.inbox k) (waiting_of a.inbox k) to x.fresh
      → RestsUnless (taken_of b.inbox k) (waiting_of b.inbox k) to way.fresh

out_kept : (a b q : Inboxes) → b.site ≡ a.site → ((x : Outlet Item) → slice_get a.ways.items q.site ≡ Some x → OutKept b q.site x) → Linked a q → Linked b q
out_kept a b q s h l =
    let k = h l.way l.way_is in
    record {
      way = k.way;
      back = l.back;
      way_is = k.is;
      back_is = subst (λ (m : ℕ). slice_get q.ways.items m ≡ Some l.back) (sym s) l.back_is;
      joined = k.queue_same ∙ l.joined;
      counts = subst (λ (m : ℕ). Counts (taken_of q.inbox m) (last_by k.way) l.back.fresh) (sym s)
          (subst (λ (v : List Item). Counts (taken_of q.inbox a.site) v l.back.fresh) (sym k.last_same) l.counts);
      rests = subst (λ (m : ℕ). RestsUnless (taken_of q.inbox m) (waiting_of q.inbox m) k.way l.back.fresh) (sym s)
          (k.rests (taken_of q.inbox a.site) (waiting_of q.inbox a.site) l.back.fresh l.rests);
    }

in_kept : (a b q : Inboxes) → b.site ≡ a.site → b.inbox.pass.table_id ≡ a.inbox.pass.table_id → ((x : Outlet Item) → slice_get a.ways.items q.site ≡ Some x → InKept a b q.site x)
    → Linked q a → Linked q b
in_kept a b q s t h l =
    let k = h l.back l.back_is in
    record {
      way = l.way;
      back = k.way;
      way_is = subst (λ (m : ℕ). slice_get q.ways.items m ≡ Some l.way) (sym s) l.way_is;
      back_is = k.is;
      joined = l.joined ∙ sym t;
      counts = k.counts (last_by l.way) l.counts;
      rests = k.rests l.way l.rests;
    }

-- a way is at rest still where no more was taken, and no more is known to wait
rests_same : (a b : Inboxes) (k n : ℕ) (to : Outlet Item) → taken_of b.inbox k ≡ taken_of a.inbox k → waiting_of b.inbox k ≡ waiting_of a.inbox k
    → RestsUnless (taken_of a.inbox k) (waiting_of a.inbox k) to n → RestsUnless (taken_of b.inbox k) (waiting_of b.inbox k) to n
rests_same a b k n to g w h put fresh =
    let r = h put fresh in
    record { rest = record { all_taken = g ∙ r.rest.all_taken; none_known = w ∙ r.rest.none_known; all_free = r.rest.all_free }; last = r.last ∙ sym g }

-- a port of which only the inbox changed, from which nothing was taken
pub keeps_same : (a b : Inboxes) → b.site ≡ a.site → b.ways ≡ a.ways → b.inbox.pass.table_id ≡ a.inbox.pass.table_id → ((k : ℕ) → taken_of b.inbox k ≡ taken_of a.inbox k)
    → ((k : ℕ) → waiting_of b.inbox k ≡ waiting_of a.inbox k) → KeepsPort a b
keeps_same a b s w t g v = record {
  site_same = s;
  among_same = ap (λ v. length v.items) w;
  links = record {
    out_same = λ q. out_kept a b q s (λ x e. record { way = x; is = ap (λ v. slice_get v.items q.site) w ∙ e; queue_same = refl; last_same = refl; rests = λ got known fresh r. r });
    in_same = λ q. in_kept a b q s t (λ x e. record {
      way = x;
      is = ap (λ v. slice_get v.items q.site) w ∙ e;
      counts = λ last c. subst (λ (v : List Item). Counts v last x.fresh) (sym (g q.site)) c;
      rests = λ to. rests_same a b q.site x.fresh to (g q.site) (v q.site);
    });
  };
}

-- b is a with another way in one place, y for x, whatever became of its inbox
pub record Changes (a b : Inboxes) (i : ℕ) (x y : Outlet Item) : Type 0 where
  pub site_same : b.site ≡ a.site
  pub ways : b.ways.items ≡ set a.ways.items i y
  pub was : slice_get a.ways.items i ≡ Some x

module _ (a b : Inboxes) (i : ℕ) (x y : Outlet Item) (h : Changes a b i x y) where
  pub written : slice_get b.ways.items i ≡ Some y
  written = rw h.ways (get-set_same a.ways.items i y (slice_get_within a.ways.items i x h.was))

  others : (k : ℕ) → k ≢ i → slice_get b.ways.items k ≡ slice_get a.ways.items k
  others k n = rw h.ways (get-set_other a.ways.items i k y n)

  pub was_is : (k : ℕ) (v : Outlet Item) → k ≡ i → slice_get a.ways.items k ≡ Some v → x ≡ v
  was_is k v e f = some_is (slice_get a.ways.items i) x v h.was (subst (λ (m : ℕ). slice_get a.ways.items m ≡ Some v) e f)

  among_kept : among_in b ≡ among_in a
  among_kept = ap length h.ways ∙ length-set a.ways.items i y

  abbrev pub OutRests : Type 0
  OutRests = (got known : List Item) (fresh : ℕ) → RestsUnless got known x fresh → RestsUnless got known y fresh

  abbrev pub InRests : Type 0
  InRests = (to : Outlet Item) → RestsUnless (taken_of a.inbox i) (waiting_of a.inbox i) to x.fresh
      → RestsUnless (taken_of b.inbox i) (waiting_of b.inbox i) to y.fresh

  -- a way on which something was put tells nothing of rest
  pub put_rests : y.has_put ≡ true → OutRests
  put_rests p got known fresh r none = absurd (true≢false (sym p ∙ none))

  -- what was put on the way is what it was, and its places are
  pub same_rests : y.has_put ≡ x.has_put → y.pass ≡ x.pass → y.spare ≡ x.spare → OutRests
  same_rests p s f got known fresh r none some =
      let o = r (sym p ∙ none) some in
      record {
        rest = record { all_taken = o.rest.all_taken ∙ sym (ap (λ q. sent_in (view q)) s); none_known = o.rest.none_known; all_free = f ∙ o.rest.all_free };
        last = ap (λ q. last_in (view q)) s ∙ o.last;
      }

  -- where something was taken nothing is told of rest
  pub taken_rests : 0 < y.fresh → InRests
  taken_rests f to r none some = absurd (omega (arith, f, some))

  out_at : y.pass.table_id ≡ x.pass.table_id → last_by y ≡ last_by x → OutRests → (k : ℕ) (v : Outlet Item) → slice_get a.ways.items k ≡ Some v → OutKept b k v
  out_at t l o k v e =
      elim (eqb_tells k i) [
        | inl w ↦
            let is : x ≡ v = was_is k v w.1 e in
            record {
              way = y;
              is = subst (λ (m : ℕ). slice_get b.ways.items m ≡ Some y) (sym w.1) written;
              queue_same = t ∙ ap (λ (o : Outlet Item). o.pass.table_id) is;
              last_same = l ∙ ap (λ (o : Outlet Item). last_by o) is;
              rests = λ got known fresh r. o got known fresh (subst (λ (o : Outlet Item). RestsUnless got known o fresh) (sym is) r);
            }
        | inr w ↦ record { way = v; is = others k w.1 ∙ e; queue_same = refl; last_same = refl; rests = λ got known fresh r. r }
      ]

  in_at : ((k : ℕ) → k ≢ i → taken_of b.inbox k ≡ taken_of a.inbox k) → ((k : ℕ) → k ≢ i → waiting_of b.inbox k ≡ waiting_of a.inbox k)
      → ((last : List Item) → Counts (taken_of a.inbox i) last x.fresh → Counts (taken_of b.inbox i) last y.fresh) → InRests
      → (k : ℕ) (v : Outlet Item) → slice_get a.ways.items k ≡ Some v → InKept a b k v
  in_at same wait here n k v e =
      elim (eqb_tells k i) [
        | inl w ↦
            let is : x ≡ v = was_is k v w.1 e in
            record {
              way = y;
              is = subst (λ (m : ℕ). slice_get b.ways.items m ≡ Some y) (sym w.1) written;
              counts = λ last c. subst (λ (m : ℕ). Counts (taken_of b.inbox m) last y.fresh) (sym w.1)
                  (here last (subst (λ (o : Outlet Item). Counts (taken_of a.inbox i) last o.fresh) (sym is) (subst (λ (m : ℕ). Counts (taken_of a.inbox m) last v.fresh) w.1 c)));
              rests = λ to r. subst (λ (m : ℕ). RestsUnless (taken_of b.inbox m) (waiting_of b.inbox m) to y.fresh) (sym w.1)
                  (n to (subst (λ (o : Outlet Item). RestsUnless (taken_of a.inbox i) (waiting_of a.inbox i) to o.fresh) (sym is)
                  (subst (λ (m : ℕ). RestsUnless (taken_of a.inbox m) (waiting_of a.inbox m) to v.fresh) w.1 r)));
            }
        | inr w ↦ record {
          way = v;
          is = others k w.1 ∙ e;
          counts = λ last c. subst (λ (g : List Item). Counts g last v.fresh) (sym (same k w.1)) c;
          rests = λ to. rests_same a b k v.fresh to (same k w.1) (wait k w.1);
        }
      ]

  -- where nothing was taken, a count that stays is right still
  count_same : taken_of b.inbox i ≡ taken_of a.inbox i → y.fresh ≡ x.fresh → (last : List Item) → Counts (taken_of a.inbox i) last x.fresh → Counts (taken_of b.inbox i) last y.fresh
  count_same g f last c = subst (λ (v : List Item). Counts v last y.fresh) (sym g) (subst (λ (n : ℕ). Counts (taken_of a.inbox i) last n) (sym f) c)

  -- and a way is at rest still
  rest_same : taken_of b.inbox i ≡ taken_of a.inbox i → waiting_of b.inbox i ≡ waiting_of a.inbox i → y.fresh ≡ x.fresh → InRests
  rest_same g w f to r none some = rests_same a b i x.fresh to g w r none (sym f ∙ some)

  -- where an item was taken, so is a count of one more
  pub count_more : (item : Item) → taken_of b.inbox i ≡ taken_of a.inbox i ++ item ∷ [] → (x.fresh < PLACES → y.fresh ≡ x.fresh + 1) → (last : List Item)
      → Counts (taken_of a.inbox i) last x.fresh → Counts (taken_of b.inbox i) last y.fresh
  count_more item g f last c le =
      let long : length (taken_of b.inbox i) ≡ length (taken_of a.inbox i) + 1 = omega (arith, ap length g, length-append (taken_of a.inbox i) (item ∷ [])) in
      let before : length (taken_of a.inbox i) ≡ length last + x.fresh = c (omega (arith, le, long)) in
      omega (arith, long, before, f (omega (arith, le, long, before)))

  pub keeps_changed : y.pass.table_id ≡ x.pass.table_id → last_by y ≡ last_by x → OutRests → b.inbox.pass.table_id ≡ a.inbox.pass.table_id
      → ((k : ℕ) → k ≢ i → taken_of b.inbox k ≡ taken_of a.inbox k) → ((k : ℕ) → k ≢ i → waiting_of b.inbox k ≡ waiting_of a.inbox k)
      → ((last : List Item) → Counts (taken_of a.inbox i) last x.fresh → Counts (taken_of b.inbox i) last y.fresh) → InRests → KeepsPort a b
  keeps_changed t l o u same wait here n = record {
    site_same = h.site_same;
    among_same = among_kept;
    links = record {
      out_same = λ q. out_kept a b q h.site_same (out_at t l o q.site);
      in_same = λ q. in_kept a b q h.site_same u (in_at same wait here n q.site);
    };
  }

  -- a put leaves the inbox alone
  pub keeps_put : b.inbox ≡ a.inbox → y.pass.table_id ≡ x.pass.table_id → last_by y ≡ last_by x → y.fresh ≡ x.fresh → y.has_put ≡ true → KeepsPort a b
  keeps_put e t l f p =
      let same : (k : ℕ) → taken_of b.inbox k ≡ taken_of a.inbox k = λ k. ap (λ o. taken_of o k) e in
      let wait : (k : ℕ) → waiting_of b.inbox k ≡ waiting_of a.inbox k = λ k. ap (λ o. waiting_of o k) e in
      keeps_changed t l (put_rests p) (ap (λ o. o.pass.table_id) e) (λ k n. same k) (λ k n. wait k) (count_same (same i) f) (rest_same (same i) (wait i) f)

  module _ (u : b.inbox.pass.table_id ≡ a.inbox.pass.table_id) (same : (k : ℕ) → taken_of b.inbox k ≡ taken_of a.inbox k)
      (wait : (k : ℕ) → k ≢ i → waiting_of b.inbox k ≡ waiting_of a.inbox k) where
    pub keeps_but : KeepsBut site_in among_in Linked i a b
    keeps_but = record {
      site_same = h.site_same;
      among_same = among_kept;
      out_same = λ q n. out_kept a b q h.site_same (λ v e. record { way = v; is = others q.site n ∙ e; queue_same = refl; last_same = refl; rests = λ got known fresh r. r });
      in_same = λ q n. in_kept a b q h.site_same u (λ v e. record {
        way = v;
        is = others q.site n ∙ e;
        counts = λ last c. subst (λ (g : List Item). Counts g last v.fresh) (sym (same q.site)) c;
        rests = λ to. rests_same a b q.site v.fresh to (same q.site) (wait q.site n);
      });
    }

    pub out_still : y.pass.table_id ≡ x.pass.table_id → last_by y ≡ last_by x → OutRests → (q : Inboxes) → Linked a q → Linked b q
    out_still t l o q = out_kept a b q h.site_same (out_at t l o q.site)

    pub in_still : y.fresh ≡ x.fresh → waiting_of b.inbox i ≡ waiting_of a.inbox i → (q : Inboxes) → Linked q a → Linked q b
    in_still f w q = in_kept a b q h.site_same u (in_at (λ k n. same k) wait (count_same (same i) f) (rest_same (same i) w f) q.site)

-- a way that was settled, and of which each place is free then, is at rest
at_rest : (got known sent : List Item) (room : ℕ) → got ++ known ≡ sent → room ≡ PLACES - length known → room ≡ PLACES → IsAtRest sent got known room
at_rest got [] sent room s f p = record { all_taken = sym (append-nil got) ∙ s; none_known = refl; all_free = p }
at_rest got (x ∷ xs) sent room s f p = absurd (omega (arith, f, p))

-- two ports are linked anew where the way of the first into the inbox of the second was settled
pub settled_linked : (a b a' b' : Inboxes) (x y z w : Outlet Item) → Changes a a' b.site x y → Changes b b' a.site z w → y.pass.table_id ≡ x.pass.table_id
    → b'.inbox.pass.table_id ≡ b.inbox.pass.table_id → last_by y ≡ taken_of b'.inbox a.site → w.fresh ≡ 0
    → taken_of b'.inbox a.site ++ waiting_of b'.inbox a.site ≡ sent_by y → y.spare ≡ PLACES - length (waiting_of b'.inbox a.site)
    → (y.has_put ≡ false → y.spare ≡ PLACES) → Linked a b → Linked a' b'
settled_linked a b a' b' x y z w h k t u last none settled free rests l =
    let out : x ≡ l.way = was_is a a' b.site x y h b.site l.way refl l.way_is in
    record {
      way = y;
      back = w;
      way_is = subst (λ (n : ℕ). slice_get a'.ways.items n ≡ Some y) (sym k.site_same) (written a a' b.site x y h);
      back_is = subst (λ (n : ℕ). slice_get b'.ways.items n ≡ Some w) (sym h.site_same) (written b b' a.site z w k);
      joined = t ∙ (ap (λ (o : Outlet Item). o.pass.table_id) out ∙ (l.joined ∙ sym u));
      counts = λ le. let same = ap (λ (n : ℕ). length (taken_of b'.inbox n)) h.site_same in let all = ap length last in omega (arith, same, all, none);
      rests = λ put fresh. subst (λ (m : ℕ). IsIdle (taken_of b'.inbox m) (waiting_of b'.inbox m) y) (sym h.site_same)
          (record { rest = at_rest _ _ (sent_by y) y.spare settled free (rests put); last = last });
    }

eq-prop : (a b : ℕ) → IsProp (a ≡ b)
eq-prop a b = Prim.hlevel props

queue-prop : (x : Outlet Item) (y : Inbox Item) → IsProp (x.pass.table_id ≡ y.pass.table_id)
queue-prop x y = Prim.hlevel props

-- what two ports tell of each other that are linked
module _ {a b : Inboxes} (linked : ∥ Linked a b ∥₁) where
  pub way_within : b.site < length a.ways.items
  way_within = ∥∥₁_elim linked (lt-prop b.site (length a.ways.items)) (λ l. slice_get_within a.ways.items b.site l.way l.way_is)

  pub back_within : a.site < length b.ways.items
  back_within = ∥∥₁_elim linked (lt-prop a.site (length b.ways.items)) (λ l. slice_get_within b.ways.items a.site l.back l.back_is)

  pub way_joined : (x : Outlet Item) → slice_get a.ways.items b.site ≡ Some x → x.pass.table_id ≡ b.inbox.pass.table_id
  way_joined x e = ∥∥₁_elim linked (queue-prop x b.inbox)
      (λ l. ap (λ (o : Outlet Item). o.pass.table_id) (some_is (slice_get a.ways.items b.site) x l.way e l.way_is) ∙ l.joined)

  pub way_counts : (x z : Outlet Item) (n : ℕ) → slice_get a.ways.items b.site ≡ Some x → slice_get b.ways.items a.site ≡ Some z → n ≡ a.site → Counts (taken_of b.inbox n) (last_by x) z.fresh
  way_counts x z n e f s le = ∥∥₁_elim linked (eq-prop (length (taken_of b.inbox n)) (length (last_by x) + z.fresh))
      (λ l.
      let out : x ≡ l.way = some_is (slice_get a.ways.items b.site) x l.way e l.way_is in
      let back : z ≡ l.back = some_is (slice_get b.ways.items a.site) z l.back f l.back_is in
      let here = ap (λ (m : ℕ). length (taken_of b.inbox m)) s in
      let last = ap (λ (o : Outlet Item). length (last_by o)) out in
      let count = ap (λ (o : Outlet Item). o.fresh) back in
      let all = l.counts (omega (arith, le, here, last)) in
      omega (arith, here, last, count, all))

  pub way_rests : (x z : Outlet Item) (n : ℕ) → slice_get a.ways.items b.site ≡ Some x → slice_get b.ways.items a.site ≡ Some z → n ≡ a.site
      → ∥ RestsUnless (taken_of b.inbox n) (waiting_of b.inbox n) x z.fresh ∥₁
  way_rests x z n e f s = ∥∥₁_map linked (λ l.
      let out : x ≡ l.way = some_is (slice_get a.ways.items b.site) x l.way e l.way_is in
      let back : z ≡ l.back = some_is (slice_get b.ways.items a.site) z l.back f l.back_is in
      subst (λ (m : ℕ). RestsUnless (taken_of b.inbox m) (waiting_of b.inbox m) x z.fresh) (sym s)
      (subst (λ (o : Outlet Item). RestsUnless (taken_of b.inbox a.site) (waiting_of b.inbox a.site) o z.fresh) (sym out)
      (subst (λ (o : Outlet Item). RestsUnless (taken_of b.inbox a.site) (waiting_of b.inbox a.site) l.way o.fresh) (sym back) l.rests)))
