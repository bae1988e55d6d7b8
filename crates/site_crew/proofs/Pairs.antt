-- The links are settled one after another.
use Rattle.std.proofs.Common.{◌≡◌, ◌≢◌, ℕ, ◌+◌, ◌-◌, ◌<◌, ◌≤◌, ◌⊎◌, inl, inr, Bool, true, false, List, [], ◌∷◌, ◌++◌, length, set, get_or, refl, sym, ◌∙◌, ap, subst, arith, Some, length-set, length-append}
use Rattle.std.specs.Prelude.{slice_get}
use Rattle.std.proofs.lemmas.Option.{slice_get_within, slice_get-get_or}
use Rattle.std.proofs.lemmas.List.{set-append_left, set-append_right, get_or_append_left, get_or-append-add}
use Rattle.std.proofs.lemmas.Bool.Decides.{eqb_tells}
use Rattle.std.proofs.Math.Logic.{∥∥₁_map}
use Rattle.np_syntax.proofs.Options.{some_is}
use Rattle.site_links.specs.Words.{KeepsBut}
use Rattle.site_links.specs.declared.places.TheConstants.{PLACES}
use Rattle.site_links.specs.declared.port.Port as Port
use Rattle.site_links.proofs.Rows.{get-set_same, get-set_other}
use Rattle.agent_move.specs.declared.item.Item.{Item}
use Rattle.site_turn.specs.declared.seat.Seat.{Seat}
use Rattle.site_crew.specs.Links.{AllStill, AreLinked, AreSettledBelow, EndsAgree, IsPairSettled, IsSettled, IsSettledTo, IsTold, IsToldBelow, Still, Was}

-- ---- lists

-- two writes at the two sides of a seam are two writes to the whole
pub seam : {T : Type 0} (xs l r : List T) (n i : ℕ) (x y : T) → xs ≡ l ++ r → length l ≡ n → i < n → set l i x ++ set r 0 y ≡ set (set xs i x) n y
seam xs l r n i x y e len h =
    let p : set xs i x ≡ set l i x ++ r = rw e (set-append_left l r i x (omega arith)) in
    let q : set (set l i x ++ r) n y ≡ set l i x ++ set r (n - n) y = set-append_right (set l i x) r n n y (length-set l i x ∙ len) (omega arith) in
    let z : n - n ≡ 0 = omega arith in
    sym (ap (λ v. set v n y) p ∙ (q ∙ ap (λ m. set l i x ++ set r m y) z))

-- what two writes leave
pub record Two {T : Type 0} (xs ys : List T) (i j : ℕ) (x y : T) : Type 0 where
  pub count : length ys ≡ length xs
  pub at_i : slice_get ys i ≡ Some x
  pub at_j : slice_get ys j ≡ Some y
  pub others : (k : ℕ) → k ≢ i → k ≢ j → slice_get ys k ≡ slice_get xs k

pub two_sets : {T : Type 0} (xs : List T) (i j : ℕ) (x y : T) → i < length xs → j < length xs → i ≢ j → Two xs (set (set xs i x) j y) i j x y
two_sets xs i j x y hi hj ne = record {
  count = length-set (set xs i x) j y ∙ length-set xs i x;
  at_i = get-set_other (set xs i x) j i y ne ∙ get-set_same xs i x hi;
  at_j = get-set_same (set xs i x) j y (rw length-set hj);
  others = λ k a b. get-set_other (set xs i x) j k y b ∙ get-set_other xs i k x a;
}

pub two_swap : {T : Type 0} {xs ys : List T} {i j : ℕ} {x y : T} → Two xs ys j i y x → Two xs ys i j x y
two_swap h = record { count = h.count; at_i = h.at_j; at_j = h.at_i; others = λ k a b. h.others k b a }

-- an element read at a part of a list is one of the list
pub read_front : {T : Type 0} (xs l r : List T) (n i : ℕ) (d : T) → xs ≡ l ++ r → length l ≡ n → i < n → slice_get xs i ≡ Some (get_or l i d)
read_front xs l r n i d e len h =
    let q : get_or (l ++ r) i d ≡ get_or l i d = get_or_append_left l r d i (omega arith) in
    let b : i < length (l ++ r) = rw length-append (omega arith) in
    rw e (slice_get-get_or (l ++ r) i d b ∙ ap (λ v. Some v) q)

pub read_back : {T : Type 0} (xs l r : List T) (n : ℕ) (d : T) → xs ≡ l ++ r → length l ≡ n → n < length xs → slice_get xs n ≡ Some (get_or r 0 d)
read_back xs l r n d e len h =
    let q : get_or (l ++ r) (length l + 0) d ≡ get_or r 0 d = get_or-append-add l r 0 d in
    let z : length l + 0 ≡ n = omega arith in
    let b : n < length (l ++ r) = subst (λ (v : List _). n < length v) e h in
    rw e (slice_get-get_or (l ++ r) n d b ∙ ap (λ v. Some v) (subst (λ (m : ℕ). get_or (l ++ r) m d ≡ get_or r 0 d) z q))

-- what is known to be free of all places
places_of : (room waiting : ℕ) → room ≡ PLACES - waiting → PLACES ≤ room + waiting
places_of room waiting e = omega arith

none-long : {T : Type 0} (xs : List T) → length xs ≡ 0 → xs ≡ []
none-long [] e = refl
none-long (x ∷ xs) e = absurd (omega arith)

-- ---- one pair

-- what the ports were, and are
module _ {P R : Type 0} (g : Port.Ghosts P R Item) where
  -- a settle of the link between two sites
  pub record Settle (i j : ℕ) (a b a' b' : P) (many : ℕ) : Type 0 where
    pub out_keeps : KeepsBut g.site g.among g.linked j a a'
    pub in_keeps : KeepsBut g.site g.among g.linked i b b'
    pub there : g.linked a b → g.linked a' b'
    pub back : g.linked b a → g.linked b' a'
    pub sent : (k : ℕ) → (g.sent a' k ≡ g.sent a k) × (g.sent b' k ≡ g.sent b k)
    pub got : (k : ℕ) → (g.got a' k ≡ g.got a k) × (g.got b' k ≡ g.got b k)
    pub known_out : (k : ℕ) → g.known a' k ≡ g.known a k
    pub known_in : (k : ℕ) → k ≢ i → g.known b' k ≡ g.known b k
    pub room_out : (k : ℕ) → k ≢ j → g.room a' k ≡ g.room a k
    pub room_in : (k : ℕ) → g.room b' k ≡ g.room b k
    pub settled : g.got b' i ++ g.known b' i ≡ g.sent a' j
    pub free : g.room a' j ≡ PLACES - length (g.known b' i)
    pub waiting : many ≡ length (g.known b' i)

  -- a settle of a site's own link
  pub record SettleOwn (i : ℕ) (a a' : P) (many : ℕ) : Type 0 where
    pub keeps : KeepsBut g.site g.among g.linked i a a'
    pub own : g.linked a a → g.linked a' a'
    pub same : (k : ℕ) → (g.sent a' k ≡ g.sent a k) × (g.got a' k ≡ g.got a k)
    pub known : (k : ℕ) → k ≢ i → g.known a' k ≡ g.known a k
    pub room : (k : ℕ) → k ≢ i → g.room a' k ≡ g.room a k
    pub settled : g.got a' i ++ g.known a' i ≡ g.sent a' i
    pub free : g.room a' i ≡ PLACES - length (g.known a' i)
    pub waiting : many ≡ length (g.known a' i)

-- the seat with another port
abbrev pub with_port : {P : Type 0} → Seat P → P → Seat P
with_port s p = record { site = s.site; port = p; aside = s.aside; budget = s.budget; failed = s.failed; waits = s.waits }

-- the part that a place has in a settle of two sites: it is the sender, the receiver or another
data Part {P : Type 0} (i j : ℕ) (a b a' b' : P) (k : ℕ) (p q : P) : Type 0 where
  sender : k ≡ i → p ≡ a → q ≡ a' → Part i j a b a' b' k p q
  receiver : k ≡ j → p ≡ b → q ≡ b' → Part i j a b a' b' k p q
  other : k ≢ i → k ≢ j → p ≡ q → Part i j a b a' b' k p q

-- the seat with what it tells changed
abbrev pub with_waits : {P : Type 0} → Seat P → Bool → Seat P
with_waits s w = record { site = s.site; port = s.port; aside = s.aside; budget = s.budget; failed = s.failed; waits = w }

abbrev pub with_told : {P : Type 0} → List (Seat P) → ℕ → Seat P → Bool → List (Seat P)
with_told xs j c w = set xs j (with_waits c w)

at_then : {P : Type 0} (xs : List (Seat P)) (j : ℕ) (c : Seat P) (w : Bool) → slice_get xs j ≡ Some c → slice_get (with_told xs j c w) j ≡ Some (with_waits c w)
at_then xs j c w at_j = get-set_same xs j (with_waits c w) (slice_get_within xs j c at_j)

at_now : {P : Type 0} (xs : List (Seat P)) (i : ℕ) (c : Seat P) (p : P) → slice_get xs i ≡ Some c → slice_get (set xs i (with_port c p)) i ≡ Some (with_port c p)
at_now xs i c p at_i = get-set_same xs i (with_port c p) (slice_get_within xs i c at_i)

module _ {P R : Type 0} {g : Port.Ghosts P R Item} where
  pub still_refl : (a : Seat P) → Still g a a
  still_refl a = record { site_same = refl; aside_same = refl; budget_same = refl; failed_same = refl; number = refl; among = refl; sent_same = λ k. refl; got_same = λ k. refl }

  pub still_trans : {a b c : Seat P} → Still g a b → Still g b c → Still g a c
  still_trans h k = record {
    site_same = k.site_same ∙ h.site_same;
    aside_same = k.aside_same ∙ h.aside_same;
    budget_same = k.budget_same ∙ h.budget_same;
    failed_same = k.failed_same ∙ h.failed_same;
    number = k.number ∙ h.number;
    among = k.among ∙ h.among;
    sent_same = λ m. k.sent_same m ∙ h.sent_same m;
    got_same = λ m. k.got_same m ∙ h.got_same m;
  }

  module _ (i j : ℕ) (xs ys : List (Seat P)) (c d : Seat P) (a' b' : P) (ne : i ≢ j) (linked : AreLinked g xs) (at_i : slice_get xs i ≡ Some c) (at_j : slice_get xs j ≡ Some d)
      (two : Two xs ys i j (with_port c a') (with_port d b')) (waiting : ℕ) (s : Settle g i j c.port d.port a' b' waiting) where
    abbrev here : ℕ → P → P → Type 0
    here k p q = Part i j c.port d.port a' b' k p q

    part : (k : ℕ) (p q : Seat P) → slice_get xs k ≡ Some p → slice_get ys k ≡ Some q → here k p.port q.port
    part k p q was is =
        elim (eqb_tells k i) [
          | inl w ↦
              sender w.1 (ap (λ (v : Seat P). v.port) (some_is (slice_get xs i) p c (subst (λ (m : ℕ). slice_get xs m ≡ Some p) w.1 was) at_i))
              (ap (λ (v : Seat P). v.port) (some_is (slice_get ys i) q (with_port c a') (subst (λ (m : ℕ). slice_get ys m ≡ Some q) w.1 is) two.at_i))
          | inr w ↦ elim (eqb_tells k j) [
            | inl u ↦
                receiver u.1 (ap (λ (v : Seat P). v.port) (some_is (slice_get xs j) p d (subst (λ (m : ℕ). slice_get xs m ≡ Some p) u.1 was) at_j))
                (ap (λ (v : Seat P). v.port) (some_is (slice_get ys j) q (with_port d b') (subst (λ (m : ℕ). slice_get ys m ≡ Some q) u.1 is) two.at_j))
            | inr u ↦ other w.1 u.1 (ap (λ (v : Seat P). v.port) (some_is (slice_get xs k) p q was (sym (two.others k w.1 u.1) ∙ is)))
          ]
        ]

    site_a : g.site c.port ≡ i
    site_a = (linked.placed i c at_i).0

    site_b : g.site d.port ≡ j
    site_b = (linked.placed j d at_j).0

    links : (k l : ℕ) (p r q t : P) → here k p q → here l r t → g.site p ≡ k → g.site r ≡ l → g.linked p r → g.linked q t
    links k l p r q t (sender ki pa qa) (sender li ra ta) sp sr h =
        let own : g.linked c.port c.port = subst (λ (v : P). g.linked c.port v) ra (subst (λ (v : P). g.linked v r) pa h) in
        let one : g.linked a' c.port = s.out_keeps.out_same c.port (λ e. ne (sym site_a ∙ e)) own in
        let two' : g.linked a' a' = s.out_keeps.in_same a' (λ e. ne (sym (s.out_keeps.site_same ∙ site_a) ∙ e)) one in
        subst (λ (v : P). g.linked v t) (sym qa) (subst (λ (v : P). g.linked a' v) (sym ta) two')
    links k l p r q t (sender ki pa qa) (receiver lj rb tb) sp sr h =
        let one : g.linked c.port d.port = subst (λ (v : P). g.linked c.port v) rb (subst (λ (v : P). g.linked v r) pa h) in
        subst (λ (v : P). g.linked v t) (sym qa) (subst (λ (v : P). g.linked a' v) (sym tb) (s.there one))
    links k l p r q t (sender ki pa qa) (other ni nj same) sp sr h =
        let one : g.linked c.port r = subst (λ (v : P). g.linked v r) pa h in
        let two' : g.linked a' r = s.out_keeps.out_same r (λ e. nj (sym sr ∙ e)) one in
        subst (λ (v : P). g.linked v t) (sym qa) (subst (λ (v : P). g.linked a' v) same two')
    links k l p r q t (receiver kj pb qb) (sender li ra ta) sp sr h =
        let one : g.linked d.port c.port = subst (λ (v : P). g.linked d.port v) ra (subst (λ (v : P). g.linked v r) pb h) in
        subst (λ (v : P). g.linked v t) (sym qb) (subst (λ (v : P). g.linked b' v) (sym ta) (s.back one))
    links k l p r q t (receiver kj pb qb) (receiver lj rb tb) sp sr h =
        let own : g.linked d.port d.port = subst (λ (v : P). g.linked d.port v) rb (subst (λ (v : P). g.linked v r) pb h) in
        let one : g.linked b' d.port = s.in_keeps.out_same d.port (λ e. ne (sym e ∙ site_b)) own in
        let two' : g.linked b' b' = s.in_keeps.in_same b' (λ e. ne (sym e ∙ (s.in_keeps.site_same ∙ site_b))) one in
        subst (λ (v : P). g.linked v t) (sym qb) (subst (λ (v : P). g.linked b' v) (sym tb) two')
    links k l p r q t (receiver kj pb qb) (other ni nj same) sp sr h =
        let one : g.linked d.port r = subst (λ (v : P). g.linked v r) pb h in
        let two' : g.linked b' r = s.in_keeps.out_same r (λ e. ni (sym sr ∙ e)) one in
        subst (λ (v : P). g.linked v t) (sym qb) (subst (λ (v : P). g.linked b' v) same two')
    links k l p r q t (other ni nj same) (sender li ra ta) sp sr h =
        let one : g.linked p c.port = subst (λ (v : P). g.linked p v) ra h in
        let two' : g.linked p a' = s.out_keeps.in_same p (λ e. nj (sym sp ∙ e)) one in
        subst (λ (v : P). g.linked v t) same (subst (λ (v : P). g.linked p v) (sym ta) two')
    links k l p r q t (other ni nj same) (receiver lj rb tb) sp sr h =
        let one : g.linked p d.port = subst (λ (v : P). g.linked p v) rb h in
        let two' : g.linked p b' = s.in_keeps.in_same p (λ e. ni (sym sp ∙ e)) one in
        subst (λ (v : P). g.linked v t) same (subst (λ (v : P). g.linked p v) (sym tb) two')
    links k l p r q t (other ni nj same) (other mi mj alike) sp sr h = subst (λ (v : P). g.linked v t) same (subst (λ (v : P). g.linked p v) alike h)

    pub pair_of_two : IsPairSettled g i j xs ys waiting
    pair_of_two = record {
      count = two.count;
      each = λ k v h.
          elim (eqb_tells k i) [
            | inl w ↦
                let is : with_port c a' ≡ v = some_is (slice_get ys i) (with_port c a') v two.at_i (subst (λ (m : ℕ). slice_get ys m ≡ Some v) w.1 h) in
                subst (λ (o : Seat P). Was g i j xs k o) is (record {
                  before = c;
                  was = subst (λ (m : ℕ). slice_get xs m ≡ Some c) (sym w.1) at_i;
                  still = record { site_same = refl; aside_same = refl; budget_same = refl; failed_same = refl; number = s.out_keeps.site_same; among = s.out_keeps.among_same; sent_same = λ m. (s.sent m).0; got_same = λ m. (s.got m).0 };
                  waits_same = refl;
                  known_same = λ m n. s.known_out m;
                  room_same = λ m n. s.room_out m (λ e. n w.1 e);
                })
            | inr w ↦ elim (eqb_tells k j) [
              | inl u ↦
                  let is : with_port d b' ≡ v = some_is (slice_get ys j) (with_port d b') v two.at_j (subst (λ (m : ℕ). slice_get ys m ≡ Some v) u.1 h) in
                  subst (λ (o : Seat P). Was g i j xs k o) is (record {
                    before = d;
                    was = subst (λ (m : ℕ). slice_get xs m ≡ Some d) (sym u.1) at_j;
                    still = record { site_same = refl; aside_same = refl; budget_same = refl; failed_same = refl; number = s.in_keeps.site_same; among = s.in_keeps.among_same; sent_same = λ m. (s.sent m).1; got_same = λ m. (s.got m).1 };
                    waits_same = refl;
                    known_same = λ m n. s.known_in m (λ e. n u.1 e);
                    room_same = λ m n. s.room_in m;
                  })
              | inr u ↦ record { before = v; was = sym (two.others k w.1 u.1) ∙ h; still = still_refl v; waits_same = refl; known_same = λ m n. refl; room_same = λ m n. refl }
            ]
          ];
      links = λ k l p r q t wp wr wq wt. links k l p.port r.port q.port t.port (part k p q wp wq) (part l r t wr wt) (linked.placed k p wp).0 (linked.placed l r wr).0;
      settled = λ v w a b.
          let is : with_port c a' ≡ v = some_is (slice_get ys i) (with_port c a') v two.at_i a in
          let js : with_port d b' ≡ w = some_is (slice_get ys j) (with_port d b') w two.at_j b in
          subst (λ (o : Seat P). EndsAgree g i j v o) js (subst (λ (o : Seat P). EndsAgree g i j o (with_port d b')) is (record { all = s.settled; free = places_of _ _ s.free }));
      waiting = λ w b.
          let js : with_port d b' ≡ w = some_is (slice_get ys j) (with_port d b') w two.at_j b in
          subst (λ (o : Seat P). waiting ≡ length (g.known o.port i)) js s.waiting;
    }

  module _ (i : ℕ) (xs : List (Seat P)) (c : Seat P) (a' : P) (linked : AreLinked g xs) (at_i : slice_get xs i ≡ Some c) (waiting : ℕ) (s : SettleOwn g i c.port a' waiting) where
    abbrev now : List (Seat P)
    now = set xs i (with_port c a')

    is_now : slice_get now i ≡ Some (with_port c a')
    is_now = at_now xs i c a' at_i

    own-part : (k : ℕ) (p q : Seat P) → slice_get xs k ≡ Some p → slice_get now k ≡ Some q → ((k ≡ i) × (p.port ≡ c.port) × (q.port ≡ a')) ⊎ ((k ≢ i) × (p.port ≡ q.port))
    own-part k p q was is =
        elim (eqb_tells k i) [
          | inl w ↦ inl (
            w.1,
            ap (λ (v : Seat P). v.port) (some_is (slice_get xs i) p c (subst (λ (m : ℕ). slice_get xs m ≡ Some p) w.1 was) at_i),
            ap (λ (v : Seat P). v.port) (some_is (slice_get now i) q (with_port c a') (subst (λ (m : ℕ). slice_get now m ≡ Some q) w.1 is) is_now),
          )
          | inr w ↦ inr (w.1, ap (λ (v : Seat P). v.port) (some_is (slice_get xs k) p q was (sym (get-set_other xs i k (with_port c a') w.1) ∙ is)))
        ]

    own-links : (k l : ℕ) (p r q t : P) → ((k ≡ i) × (p ≡ c.port) × (q ≡ a')) ⊎ ((k ≢ i) × (p ≡ q)) → ((l ≡ i) × (r ≡ c.port) × (t ≡ a')) ⊎ ((l ≢ i) × (r ≡ t))
        → g.site p ≡ k → g.site r ≡ l → g.linked p r → g.linked q t
    own-links k l p r q t (inl x) (inl y) sp sr h =
        let one : g.linked c.port c.port = subst (λ (v : P). g.linked c.port v) y.1 (subst (λ (v : P). g.linked v r) x.1 h) in
        subst (λ (v : P). g.linked v t) (sym x.2) (subst (λ (v : P). g.linked a' v) (sym y.2) (s.own one))
    own-links k l p r q t (inl x) (inr y) sp sr h =
        let one : g.linked c.port r = subst (λ (v : P). g.linked v r) x.1 h in
        let two : g.linked a' r = s.keeps.out_same r (λ e. y.0 (sym sr ∙ e)) one in
        subst (λ (v : P). g.linked v t) (sym x.2) (subst (λ (v : P). g.linked a' v) y.1 two)
    own-links k l p r q t (inr x) (inl y) sp sr h =
        let one : g.linked p c.port = subst (λ (v : P). g.linked p v) y.1 h in
        let two : g.linked p a' = s.keeps.in_same p (λ e. x.0 (sym sp ∙ e)) one in
        subst (λ (v : P). g.linked v t) x.1 (subst (λ (v : P). g.linked p v) (sym y.2) two)
    own-links k l p r q t (inr x) (inr y) sp sr h = subst (λ (v : P). g.linked v t) x.1 (subst (λ (v : P). g.linked p v) y.1 h)

    pub pair_of_own : IsPairSettled g i i xs now waiting
    pair_of_own = record {
      count = length-set xs i (with_port c a');
      each = λ k v h.
          elim (eqb_tells k i) [
            | inl w ↦
                let is : with_port c a' ≡ v = some_is (slice_get now i) (with_port c a') v is_now (subst (λ (m : ℕ). slice_get now m ≡ Some v) w.1 h) in
                subst (λ (o : Seat P). Was g i i xs k o) is (record {
                  before = c;
                  was = subst (λ (m : ℕ). slice_get xs m ≡ Some c) (sym w.1) at_i;
                  still = record { site_same = refl; aside_same = refl; budget_same = refl; failed_same = refl; number = s.keeps.site_same; among = s.keeps.among_same; sent_same = λ m. (s.same m).0; got_same = λ m. (s.same m).1 };
                  waits_same = refl;
                  known_same = λ m n. s.known m (λ e. n w.1 e);
                  room_same = λ m n. s.room m (λ e. n w.1 e);
                })
            | inr w ↦ record { before = v; was = sym (get-set_other xs i k (with_port c a') w.1) ∙ h; still = still_refl v; waits_same = refl; known_same = λ m n. refl; room_same = λ m n. refl }
          ];
      links = λ k l p r q t wp wr wq wt. own-links k l p.port r.port q.port t.port (own-part k p q wp wq) (own-part l r t wr wt) (linked.placed k p wp).0 (linked.placed l r wr).0;
      settled = λ v w a b.
          let is : with_port c a' ≡ v = some_is (slice_get now i) (with_port c a') v is_now a in
          let js : with_port c a' ≡ w = some_is (slice_get now i) (with_port c a') w is_now b in
          subst (λ (o : Seat P). EndsAgree g i i v o) js (subst (λ (o : Seat P). EndsAgree g i i o (with_port c a')) is (record { all = s.settled; free = places_of _ _ s.free }));
      waiting = λ w b.
          let js : with_port c a' ≡ w = some_is (slice_get now i) (with_port c a') w is_now b in
          subst (λ (o : Seat P). waiting ≡ length (g.known o.port i)) js s.waiting;
    }

  -- the call's clauses, at the sites' numbers
  pub settles : {xs : List (Seat P)} {i j : ℕ} {c d : Seat P} {a' b' : P} {waiting : ℕ} → AreLinked g xs → slice_get xs i ≡ Some c → slice_get xs j ≡ Some d
      → KeepsBut g.site g.among g.linked (g.site d.port) c.port a' → KeepsBut g.site g.among g.linked (g.site c.port) d.port b'
      → (g.linked c.port d.port → g.linked a' b') → (g.linked d.port c.port → g.linked b' a')
      → ((k : ℕ) → (g.sent a' k ≡ g.sent c.port k) × (g.sent b' k ≡ g.sent d.port k)) → ((k : ℕ) → (g.got a' k ≡ g.got c.port k) × (g.got b' k ≡ g.got d.port k))
      → ((k : ℕ) → (g.known a' k ≡ g.known c.port k) × (k ≢ g.site c.port → g.known b' k ≡ g.known d.port k))
      → ((k : ℕ) → (k ≢ g.site d.port → g.room a' k ≡ g.room c.port k) × (g.room b' k ≡ g.room d.port k))
      → g.got b' (g.site c.port) ++ g.known b' (g.site c.port) ≡ g.sent a' (g.site d.port) → g.room a' (g.site d.port) ≡ PLACES - length (g.known b' (g.site c.port))
      → waiting ≡ length (g.known b' (g.site c.port)) → Settle g i j c.port d.port a' b' waiting
  settles {xs} {i} {j} {c} {d} {a'} {b'} {waiting} linked ai bj ka kb there back sent got known room settled free wait =
      let p = (linked.placed i c ai).0 in let q = (linked.placed j d bj).0 in record {
        out_keeps = subst (λ (m : ℕ). KeepsBut g.site g.among g.linked m c.port a') q ka;
        in_keeps = subst (λ (m : ℕ). KeepsBut g.site g.among g.linked m d.port b') p kb;
        there = there;
        back = back;
        sent = sent;
        got = got;
        known_out = λ k. (known k).0;
        known_in = λ k n. (known k).1 (λ h. n (h ∙ p));
        room_out = λ k n. (room k).0 (λ h. n (h ∙ q));
        room_in = λ k. (room k).1;
        free = subst (λ (m : ℕ). g.room a' j ≡ PLACES - length (g.known b' m)) p (subst (λ (m : ℕ). g.room a' m ≡ PLACES - length (g.known b' (g.site c.port))) q free);
        settled = subst (λ (m : ℕ). g.got b' m ++ g.known b' m ≡ g.sent a' j) p (subst (λ (m : ℕ). g.got b' (g.site c.port) ++ g.known b' (g.site c.port) ≡ g.sent a' m) q settled);
        waiting = subst (λ (m : ℕ). waiting ≡ length (g.known b' m)) p wait;
      }

  pub settles_own : {xs : List (Seat P)} {i : ℕ} {c : Seat P} {a' : P} {waiting : ℕ} → AreLinked g xs → slice_get xs i ≡ Some c
      → KeepsBut g.site g.among g.linked (g.site c.port) c.port a' → (g.linked c.port c.port → g.linked a' a')
      → ((k : ℕ) → (g.sent a' k ≡ g.sent c.port k) × (g.got a' k ≡ g.got c.port k))
      → ((k : ℕ) → k ≢ g.site c.port → (g.known a' k ≡ g.known c.port k) × (g.room a' k ≡ g.room c.port k))
      → g.got a' (g.site c.port) ++ g.known a' (g.site c.port) ≡ g.sent a' (g.site c.port) → g.room a' (g.site c.port) ≡ PLACES - length (g.known a' (g.site c.port))
      → waiting ≡ length (g.known a' (g.site c.port)) → SettleOwn g i c.port a' waiting
  settles_own {xs} {i} {c} {a'} {waiting} linked ai keeps own same others settled free wait =
      let p = (linked.placed i c ai).0 in record {
        keeps = subst (λ (m : ℕ). KeepsBut g.site g.among g.linked m c.port a') p keeps;
        own = own;
        same = same;
        known = λ k n. (others k (λ h. n (h ∙ p))).0;
        room = λ k n. (others k (λ h. n (h ∙ p))).1;
        free = subst (λ (m : ℕ). g.room a' m ≡ PLACES - length (g.known a' m)) p free;
        settled = subst (λ (m : ℕ). g.got a' m ++ g.known a' m ≡ g.sent a' m) p settled;
        waiting = subst (λ (m : ℕ). waiting ≡ length (g.known a' m)) p wait;
      }

  -- ---- all of them

  pub linked_after : {xs ys : List (Seat P)} → AreLinked g xs → AllStill g xs ys → AreLinked g ys
  linked_after {xs} {ys} s t = record {
    placed = λ i c h.
        let e = t.each i c h in let p = s.placed i e.before e.was in
        (e.still.number ∙ p.0, e.still.among ∙ (p.1 ∙ sym t.count));
    linked = λ i j c d h k.
        let e = t.each i c h in let f = t.each j d k in
        ∥∥₁_map (s.linked i j e.before f.before e.was f.was) (t.links i j e.before f.before c d e.was f.was h k);
  }

  pub all_still_refl : (xs : List (Seat P)) → AllStill g xs xs
  all_still_refl xs = record {
    count = refl;
    each = λ k c h. record { before = c; was = h; still = still_refl c };
    links = λ k l a b c d wa wb wc wd h.
        subst (λ (v : Seat P). g.linked v.port d.port) (some_is (slice_get xs k) a c wa wc) (subst (λ (v : Seat P). g.linked a.port v.port) (some_is (slice_get xs l) b d wb wd) h);
  }

  pub all_still_trans : {xs ys zs : List (Seat P)} → AllStill g xs ys → AllStill g ys zs → AllStill g xs zs
  all_still_trans {xs} {ys} {zs} s t = record {
    count = t.count ∙ s.count;
    each = λ k c h. let w = t.each k c h in let b = s.each k w.before w.was in record { before = b.before; was = b.was; still = still_trans b.still w.still };
    links = λ k l a b c d wa wb wc wd h.
        let w = t.each k c wc in let v = t.each l d wd in
        t.links k l w.before v.before c d w.was v.was wc wd (s.links k l a b w.before v.before wa wb w.was v.was h);
  }

  pub still_of_pair : {i j : ℕ} {xs ys : List (Seat P)} {w : ℕ} → IsPairSettled g i j xs ys w → AllStill g xs ys
  still_of_pair p = record { count = p.count; each = λ k c h. let w = p.each k c h in record { before = w.before; was = w.was; still = w.still }; links = p.links }

  -- a settle of one pair leaves another one settled
  pub settled_kept : {xs ys : List (Seat P)} {w : ℕ} (i j a b : ℕ) → IsPairSettled g i j xs ys w → (b ≡ j → a ≡ i → ⊥) → IsSettled g xs a b → IsSettled g ys a b
  settled_kept {xs} {ys} i j a b p ne h c d ec ed =
      let u = p.each a c ec in let v = p.each b d ed in
      let old = h u.before v.before u.was v.was in record {
        all = rw (v.still.got_same a, v.known_same a ne, u.still.sent_same b) old.all;
        free = rw (v.known_same a ne, u.room_same b (λ e f. ne f e)) old.free;
      }

  pub told_same : (n : ℕ) (s t : Seat P) (w : Bool) → ((k : ℕ) → k < n → g.known t.port k ≡ g.known s.port k) → IsTold g n s w → IsTold g n t w
  told_same n s t w same told = record {
    none = λ e k h. same k h ∙ told.none e k h;
    some = λ none. told.some (λ k h. sym (same k h) ∙ none k h);
  }

  -- it leaves the links to another site settled
  pub other_kept : {xs ys : List (Seat P)} {w : ℕ} (i j k : ℕ) → IsPairSettled g i j xs ys w → k ≢ j → IsSettledTo g xs k → IsSettledTo g ys k
  other_kept {xs} {ys} i j k p apart old = record {
    settled = λ a. settled_kept i j a k p (λ e f. apart e) (old.settled a);
    told = λ s at.
        let b = p.each k s at in
        let told = old.told b.before b.was in
        subst (λ (v : Bool). IsTold g (length ys) s v) (sym b.waits_same)
        (subst (λ (m : ℕ). IsTold g m s b.before.waits) (sym p.count) (told_same (length xs) b.before s b.before.waits (λ m h. b.known_same m (λ e f. apart e)) told));
  }

  pub here_kept : {xs ys : List (Seat P)} {w : ℕ} (i j : ℕ) → IsPairSettled g i j xs ys w → ((a : ℕ) → a < i → IsSettled g xs a j) → (a : ℕ) → a < i + 1 → IsSettled g ys a j
  here_kept {xs} {ys} i j p here a h =
      elim (eqb_tells a i) [
        | inl u ↦ subst (λ (m : ℕ). IsSettled g ys m j) (sym u.1) p.settled
        | inr u ↦ settled_kept i j a j p (λ e f. u.1 f) (here a (omega arith))
      ]

  pub told_some : {xs ys : List (Seat P)} {w : ℕ} (i j : ℕ) → IsPairSettled g i j xs ys w → 0 < w → IsToldBelow g ys j (i + 1) true
  told_some {xs} {ys} {w} i j p some s at = record {
    none = λ e. absurd (let x = e in cc);
    some = λ none.
        let n : g.known s.port i ≡ [] = none i (omega arith) in
        let long : w ≡ length (g.known s.port i) = p.waiting s at in
        let zero : length (g.known s.port i) ≡ 0 = ap length n in
        absurd (omega arith);
  }

  pub told_none : {xs ys : List (Seat P)} {w : ℕ} (i j : ℕ) (v : Bool) → IsPairSettled g i j xs ys w → w ≡ 0 → IsToldBelow g xs j i v → IsToldBelow g ys j (i + 1) v
  told_none {xs} {ys} {w} i j v p zero told s at =
      let b = p.each j s at in
      let old = told b.before b.was in
      let same : (k : ℕ) → k < i → g.known s.port k ≡ g.known b.before.port k = λ k h. b.known_same k (λ e f. absurd (omega arith)) in
      let now = told_same i b.before s v same old in
      let last : g.known s.port i ≡ [] = none-long (g.known s.port i) (sym (p.waiting s at) ∙ zero) in
      record {
        none = λ e k h. elim (eqb_tells k i) [
          | inl u ↦ subst (λ (m : ℕ). g.known s.port m ≡ []) (sym u.1) last
          | inr u ↦ now.none e k (omega arith)
        ];
        some = λ none. now.some (λ k h. none k (omega arith));
      }

  module _ (xs : List (Seat P)) (j : ℕ) (c : Seat P) (w : Bool) (at_j : slice_get xs j ≡ Some c) where
    -- the place of a seat before, with the same port
    was_then : (k : ℕ) (s : Seat P) → slice_get (with_told xs j c w) k ≡ Some s → (b : Seat P) × (slice_get xs k ≡ Some b) × Still g b s × (s.port ≡ b.port) × (k ≢ j → s ≡ b)
    was_then k s at =
        elim (eqb_tells k j) [
          | inl u ↦
              let is : with_waits c w ≡ s = some_is (slice_get (with_told xs j c w) j) (with_waits c w) s (at_then xs j c w at_j) (subst (λ (m : ℕ). slice_get (with_told xs j c w) m ≡ Some s) u.1 at) in
              subst (λ (o : Seat P). (b : Seat P) × (slice_get xs k ≡ Some b) × Still g b o × (o.port ≡ b.port) × (k ≢ j → o ≡ b)) is (
                c,
                subst (λ (m : ℕ). slice_get xs m ≡ Some c) (sym u.1) at_j,
                record { site_same = refl; aside_same = refl; budget_same = refl; failed_same = refl; number = refl; among = refl; sent_same = λ k. refl; got_same = λ k. refl },
                refl,
                λ n. absurd (n u.1),
              )
          | inr u ↦ (s, sym (get-set_other xs j k (with_waits c w) u.1) ∙ at, still_refl s, refl, λ n. refl)
        ]

    pub still_then : AllStill g xs (with_told xs j c w)
    still_then = record {
      count = length-set xs j (with_waits c w);
      each = λ k s at. let b = was_then k s at in record { before = b.0; was = b.1; still = b.2 };
      links = λ k l p q s t wp wq ws wt h.
          let b = was_then k s ws in let d = was_then l t wt in
          let pb : p.port ≡ s.port = ap (λ (v : Seat P). v.port) (some_is (slice_get xs k) p b.0 wp b.1) ∙ sym b.3 in
          let qd : q.port ≡ t.port = ap (λ (v : Seat P). v.port) (some_is (slice_get xs l) q d.0 wq d.1) ∙ sym d.3 in
          subst (λ (v : P). g.linked v t.port) pb (subst (λ (v : P). g.linked p.port v) qd h);
    }

    settled_then : AllStill g xs (with_told xs j c w) → (a b : ℕ) → IsSettled g xs a b → IsSettled g (with_told xs j c w) a b
    settled_then still a b h s t at_a at_b =
        let u = was_then a s at_a in let v = was_then b t at_b in
        let old = h u.0 v.0 u.1 v.1 in record { all = rw (u.3, v.3) old.all; free = rw (u.3, v.3) old.free }

    pub here_then : ((a : ℕ) → a < length xs → IsSettled g xs a j) → IsToldBelow g xs j (length xs) w → IsSettledTo g (with_told xs j c w) j
    here_then here told = record {
      settled = λ a s t at_a at_b. settled_then still_then a j (λ s t e f. here a (slice_get_within xs a s e) s t e f) s t at_a at_b;
      told = λ s at.
          let is : with_waits c w ≡ s = some_is (slice_get (with_told xs j c w) j) (with_waits c w) s (at_then xs j c w at_j) at in
          let old : IsTold g (length xs) c w = told c at_j in
          let long : length (with_told xs j c w) ≡ length xs = length-set xs j (with_waits c w) in
          subst (λ (o : Seat P). IsTold g (length (with_told xs j c w)) o o.waits) is
          (subst (λ (m : ℕ). IsTold g m (with_waits c w) w) (sym long) (told_same (length xs) c (with_waits c w) w (λ k h. refl) old));
    }

    pub other_then : (k : ℕ) → k ≢ j → IsSettledTo g xs k → IsSettledTo g (with_told xs j c w) k
    other_then k apart old = record {
      settled = λ a. settled_then still_then a k (old.settled a);
      told = λ s at.
          let b = was_then k s at in
          let same : s ≡ b.0 = b.4 apart in
          let long : length (with_told xs j c w) ≡ length xs = length-set xs j (with_waits c w) in
          subst (λ (m : ℕ). IsTold g m s s.waits) (sym long) (subst (λ (o : Seat P). IsTold g (length xs) o o.waits) (sym same) (old.told b.0 b.1));
    }

  pub told_nothing : (xs : List (Seat P)) (j : ℕ) → IsToldBelow g xs j 0 false
  told_nothing xs j s at = record { none = λ e k h. absurd (omega arith); some = λ none. refl }

  pub settled_none : (xs : List (Seat P)) → AreSettledBelow g xs 0
  settled_none xs = record { each = λ j h. absurd (omega arith) }
