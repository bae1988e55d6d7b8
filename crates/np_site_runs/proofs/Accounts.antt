-- What sites tell of themselves, and where it leads.
use Rattle.std.proofs.Common.{◌≡◌, ◌≢◌, ◌<◌, ◌≤◌, ◌+◌, ◌==◌, ⊎_elim, ℕ, zero, suc, Bool, true, false, cond, nat_lt, ◌&&◌, List, [], ◌∷◌, ◌++◌, length, map, get_or, Option, None, Some, IfSome, option_to_list, filter, flat_map, refl, sym, ap, ap₂, subst, ◌∙◌, append-nil, arith}
use Rattle.std.proofs.lemmas.Bool.{eq-eqb}
use Rattle.std.proofs.lemmas.Bool.Decides.{nat_tests}
use Rattle.std.proofs.lemmas.Grind.{flat_map-append}
use Rattle.std.proofs.lemmas.List.{map-append}
use Rattle.std.proofs.lemmas.List.Elements.{All-from_recursion, filter-append, recursion_from_All}
use Rattle.std.specs.List.{AllByRecursion}
use Rattle.np_site_runs.specs.merged.Links.{air, over}
use Rattle.np_site_runs.specs.merged.Steps.{IsSpread}
use Rattle.stamp_history.specs.Histories.{IsHistory, Recorded, without_events}
use Rattle.run_merge.specs.Laws.{HaveOwnSites}
use Rattle.run_merge.proofs.InOrder.{all_append, all_filter, all_weaker, filter_alike, filter_map_back}
use Rattle.np_site_runs.specs.merged.Deeds.{Deed, IsDeedOf, StampedItem, put_for, taken_from}
use Rattle.np_site_runs.proofs.merged.Linking.{all_first}
use Rattle.np_site_runs.proofs.merged.Moving.{below_or_not}
use Rattle.np_site_runs.specs.Holdings.{Holding, IsPart}
use Rattle.np_site_runs.specs.Accounts.{AccountGrows, AccountStarts, Accounts, AreSettled, AreTheirs, Came, CameFollows, IsItsHistory, LowSitesEnd, SendsLoad, SettledAreRuns, came_on, held_runs, taken_on}
use Rattle.np_site_runs.specs.Ending.{AreKept, HasPrinted, IsLoad, IsStill}
use Rattle.np_site_runs.specs.SiteRuns.{IsHeldRun}
use Rattle.np_site_runs.specs.Starting.{start_holding}
use Rattle.np_site_runs.proofs.Ending.{all-put, low_runs_end, rests_in_holdings}
use Rattle.np_site_runs.proofs.Running.{held_run_grows, held_run_starts}

-- ---- one event more

pub account_starts : AccountStarts
account_starts n site start at = record { run = held_run_starts n site start at; sends = tt; took = refl; within = tt }

unpaired : (from : ℕ) (o : Option StampedItem) → map (λ (c : Came). c.item) (map (λ x. record { from = from; item = x }) (option_to_list o)) ≡ option_to_list o
unpaired from None = refl
unpaired from (Some x) = refl

comes-within : (n from : ℕ) (o : Option StampedItem) → IfSome o (λ x. from < n)
    → AllByRecursion (λ (c : Came). c.from < n) (map (λ x. record { from = from; item = x }) (option_to_list o))
comes-within n from None h = tt
comes-within n from (Some x) h = (h, tt)

pub account_grows : AccountGrows
account_grows n site start old new ds d came from is next sends within = record {
  run = held_run_grows n site start old new ds d is.run next;
  sends = all_append (SendsLoad site) ds (d ∷ []) is.sends (sends, tt);
  took = map-append (λ (c : Came). c.item) came (taken_on from d)
      ∙ ap₂ (λ xs ys. xs ++ ys) is.took (unpaired from d.taken ∙ sym (append-nil (option_to_list d.taken)))
      ∙ sym (flat_map-append (λ (d : Deed). option_to_list d.taken) ds (d ∷ []));
  within = all_append (λ c. c.from < n) came (taken_on from d) is.within (comes-within n from d.taken within);
}

pub came_follows : CameFollows
came_follows s xs ys = ap (map (λ (c : Came). c.item)) (filter-append (λ (c : Came). c.from == s) xs ys)
    ∙ map-append (λ (c : Came). c.item) (filter (λ c. c.from == s) xs) (filter (λ c. c.from == s) ys)

-- ---- tests of numbers below n

less-true : (s n : ℕ) → s < n → nat_lt s n ≡ true
less-true s n h = grind (arith, nat_tests)

less-false : (s n : ℕ) → n ≤ s → nat_lt s n ≡ false
less-false s n h = grind (arith, nat_tests)

is-less : (s n : ℕ) → nat_lt s n ≡ true → s < n
is-less s n h = grind (arith, nat_tests)

is-not-less : (s n : ℕ) → nat_lt s n ≡ false → n ≤ s
is-not-less s n h = grind (arith, nat_tests)

module _ {A : Type 0} (n s : ℕ) (x y : A) where
  pub inner : s < n → cond (nat_lt s n) x y ≡ x
  inner h = ap (λ t. cond t x y) (less-true s n h)

  outer : n ≤ s → cond (nat_lt s n) x y ≡ y
  outer h = ap (λ t. cond t x y) (less-false s n h)

-- ---- who sent what came

-- what is taken off the front of the list is of the rest
tail-too : (P : StampedItem → Type 0) (k : ℕ) (c : Came) (cs : List Came) → AllByRecursion P (came_on k (c ∷ cs)) → AllByRecursion P (came_on k cs)
tail-too P k c cs all = at (c.from == k) all
  where
    at : (t : Bool) → AllByRecursion P (map (λ (c : Came). c.item) (cond t (c ∷ filter (λ c. c.from == k) cs) (filter (λ c. c.from == k) cs)))
        → AllByRecursion P (came_on k cs)
    at true all = all.1
    at false all = all

head-too : (P : StampedItem → Type 0) (c : Came) (cs : List Came) → AllByRecursion P (came_on c.from (c ∷ cs)) → P c.item
head-too P c cs all = (subst (λ t. AllByRecursion P
    (map (λ (c : Came). c.item) (cond t (c ∷ filter (λ x. x.from == c.from) cs) (filter (λ x. x.from == c.from) cs)))) (eq-eqb c.from c.from refl) all).0

senders : (n : ℕ) (cs : List Came) → AllByRecursion (λ c. c.from < n) cs → ((k : ℕ) → k < n → AllByRecursion (λ x. x.item.sender ≡ k) (came_on k cs))
    → AllByRecursion (λ c. c.item.item.sender ≡ c.from) cs
senders n [] within own = tt
senders n (c ∷ cs) within own = (
  head-too (λ x. x.item.sender ≡ c.from) c cs (own c.from within.0),
  senders n cs within.1 (λ k less. tail-too (λ x. x.item.sender ≡ k) k c cs (own k less)),
)

not-above : (a s n : ℕ) → a < n → n ≤ s → (a == s) ≡ false
not-above a s n h k = grind (arith, nat_tests)

filter-none : {A : Type 0} (p : A → Bool) (xs : List A) → AllByRecursion (λ x. p x ≡ false) xs → filter p xs ≡ []
filter-none p [] all = refl
filter-none p (x ∷ xs) all = ap (λ t. cond t (x ∷ filter p xs) (filter p xs)) all.0 ∙ filter-none p xs all.1

none-on : (n s : ℕ) (cs : List Came) → n ≤ s → AllByRecursion (λ c. c.from < n) cs → came_on s cs ≡ []
none-on n s cs above within =
    ap (map (λ (c : Came). c.item)) (filter-none (λ c. c.from == s) cs
    (all_weaker (λ (c : Came). c.from < n) (λ c. (c.from == s) ≡ false) (λ c low. not-above c.from s n low above) cs within))

-- ---- what is put

weaker-put : (P Q : StampedItem → Type 0) → ((x : StampedItem) → P x → Q x) → (o : Option StampedItem) → IfSome o P → IfSome o Q
weaker-put P Q f None h = tt
weaker-put P Q f (Some x) h = f x h

-- nothing is put for what is no site
none-put : (n t : ℕ) (ds : List Deed) → n ≤ t → AllByRecursion (λ d. IfSome d.put (λ x. x.item.receiver < n)) ds → put_for t ds ≡ []
none-put n t ds above to =
    filter-none (λ x. x.item.receiver == t) (flat_map (λ d. option_to_list d.put) ds)
    (all_weaker (λ x. x.item.receiver < n) (λ x. (x.item.receiver == t) ≡ false) (λ x low. not-above x.item.receiver t n low above)
    (flat_map (λ d. option_to_list d.put) ds)
    (all-put (λ x. x.item.receiver < n) ds to))

-- ---- all sites

module _ (n : ℕ) (start : ℕ → Holding) (r : Accounts) (are : AreSettled n start r) where
  sender-is : (t : ℕ) → t < n → AllByRecursion (λ c. c.item.item.sender ≡ c.from) (r.came t)
  sender-is t less = senders n (r.came t) (are.each t less).within (λ k low.
      all_first (λ x. x.item.sender ≡ k) (came_on k (r.came t)) (r.rest k t)
      (subst (AllByRecursion (λ x. x.item.sender ≡ k)) (are.links k t low less)
      (all_filter (λ x. x.item.sender ≡ k) (λ x. x.item.receiver == t) (flat_map (λ d. option_to_list d.put) (r.deeds k))
      (all-put (λ x. x.item.sender ≡ k) (r.deeds k)
      (all_weaker (SendsLoad k) (λ d. IfSome d.put (λ x. x.item.sender ≡ k))
      (λ d is. weaker-put (λ x. (x.item.sender ≡ k) × IsLoad x.item.load) (λ x. x.item.sender ≡ k) (λ x h. h.0) d.put is) (r.deeds k)
      (are.each k low).sends)))))

  taken-is : (s t : ℕ) → t < n → taken_from s (r.deeds t) ≡ came_on s (r.came t)
  taken-is s t less =
      ap (filter (λ x. x.item.sender == s)) (sym (are.each t less).took)
      ∙ filter_map_back (λ x. x.item.sender == s) (λ (c : Came). c.item) (r.came t)
      ∙ ap (map (λ (c : Came). c.item)) (filter_alike (λ c. c.item.item.sender == s) (λ c. c.from == s) (r.came t)
      (all_weaker (λ c. c.item.item.sender ≡ c.from) (λ c. (c.item.item.sender == s) ≡ (c.from == s)) (λ c is. ap (λ a. a == s) is) (r.came t)
      (sender-is t less)))

  run-of : (s : ℕ) (b : Bool) → nat_lt s n ≡ b → IsHeldRun n s (start s) (cond b (r.deeds s) []) (cond b (r.end s) (start s))
  run-of s true e = (are.each s (is-less s n e)).run
  run-of s false e = held_run_starts n s (start s) (are.at s)

  link-of : (s t : ℕ) (b c : Bool) → nat_lt s n ≡ b → nat_lt t n ≡ c
      → put_for t (cond b (r.deeds s) []) ≡ taken_from s (cond c (r.deeds t) []) ++ cond (b && c) (r.rest s t) []
  link-of s t true true e i = are.links s t (is-less s n e) (is-less t n i) ∙ ap (λ xs. xs ++ r.rest s t) (sym (taken-is s t (is-less t n i)))
  link-of s t true false e i =
      none-put n t (r.deeds s) (is-not-less t n i)
      (all_weaker (IsDeedOf n s) (λ d. IfSome d.put (λ x. x.item.receiver < n)) (λ d is. is.to) (r.deeds s) (are.each s (is-less s n e)).run.own)
  link-of s t false true e i =
      sym (append-nil (taken_from s (r.deeds t)) ∙ taken-is s t (is-less t n i)
      ∙ none-on n s (r.came t) (is-not-less s n e) (are.each t (is-less t n i)).within)
  link-of s t false false e i = refl

  loads-of : (s : ℕ) (b : Bool) → nat_lt s n ≡ b → AllByRecursion (λ d. IfSome d.put (λ x. IsLoad x.item.load)) (cond b (r.deeds s) [])
  loads-of s true e = all_weaker (SendsLoad s) (λ d. IfSome d.put (λ x. IsLoad x.item.load))
      (λ d is. weaker-put (λ x. (x.item.sender ≡ s) × IsLoad x.item.load) (λ x. IsLoad x.item.load) (λ x h. h.1) d.put is) (r.deeds s)
      (are.each s (is-less s n e)).sends
  loads-of s false e = tt

pub settled_are_runs : SettledAreRuns
settled_are_runs n start r are = (
  record {
    each = λ s. run-of n start r are s (nat_lt s n) refl;
    others = λ s above. outer n s (r.deeds s) [] above;
    links = λ s t. link-of n start r are s t (nat_lt s n) (nat_lt t n) refl refl;
  },
  λ s. loads-of n start r are s (nat_lt s n) refl,
)

-- ---- histories at their places

pub own-sites : (i : ℕ) (hs : List Recorded) → ((k : ℕ) (d : Recorded) → k < length hs → (get_or hs k d).site ≡ i + k) → HaveOwnSites hs
own-sites i [] at = tt
own-sites i (h ∷ hs) at = (
  recursion_from_All (λ other. other.site ≢ h.site) hs (λ k d less same.
      let first : h.site ≡ i + 0 = at 0 d (omega arith) in
      let later : (get_or hs k d).site ≡ i + suc k = at (suc k) d (omega arith) in
      omega arith),
  own-sites (i + 1) hs (λ k d less. let later : (get_or hs k d).site ≡ i + suc k = at (suc k) d (omega arith) in omega arith),
)

module _ (n : ℕ) (start : ℕ → Holding) (r : Accounts) (hs : List Recorded) (are : AreTheirs n r hs) where
  within : (k : ℕ) → k < length hs → k < n
  within k less = subst (λ m. k < m) are.count less

  in-all : (P : Recorded → Type 0) → ((s : ℕ) (h : Recorded) → s < n → IsItsHistory r s h → P h) → AllByRecursion P hs
  in-all P f = recursion_from_All P hs (λ k d less. f k (get_or hs k d) (within k less) (are.each k d (within k less)))

  pub kept : AreKept hs (held_runs n start r)
  kept = record {
    histories = record {
      each = in-all IsHistory (λ s h less is. is.history);
      sites = own-sites 0 hs (λ k d less. (are.each k d (within k less)).site ∙ omega arith);
    };
    events = in-all (λ h. h.events ≡ map (λ d. d.event) (cond (nat_lt h.site n) (r.deeds h.site) [])) (λ s h less is.
        subst (λ u. h.events ≡ map (λ d. d.event) (cond (nat_lt u n) (r.deeds u) [])) (sym is.site)
        (is.events ∙ ap (map (λ (d : Deed). d.event)) (sym (inner n s (r.deeds s) [] less))));
    others = λ s none. ⊎_elim
        (λ less. absurd (All-from_recursion (λ h. h.site ≢ s) hs none s (without_events 0 0) (subst (λ m. s < m) (sym are.count) less)
        (are.each s (without_events 0 0) less).site))
        (λ above. outer n s (r.deeds s) [] above)
        (below_or_not s n);
    printed = in-all (λ h. HasPrinted (cond (nat_lt h.site n) (r.end h.site) (start h.site)) h) (λ s h less is.
        subst (λ u. HasPrinted (cond (nat_lt u n) (r.end u) (start u)) h) (sym is.site)
        (subst (λ x. HasPrinted x h) (sym (inner n s (r.end s) (start s) less)) is.printed));
  }

-- ---- the end

over-alike : {A : Type 0} (f g : ℕ → List A) (n : ℕ) → ((u : ℕ) → u < n → f u ≡ g u) → over n f ≡ over n g
over-alike f g zero h = refl
over-alike f g (suc n) h = ap₂ (λ xs ys. xs ++ ys) (h n (omega arith)) (over-alike f g n (λ u less. h u (omega arith)))

pub rest-is : (n s t : ℕ) (xs : List StampedItem) → s < n → t < n → cond (nat_lt s n && nat_lt t n) xs [] ≡ xs
rest-is n s t xs h k = ap₂ (λ p q. cond (p && q) xs []) (less-true s n h) (less-true t n k)

air-is : (n : ℕ) (rest : ℕ → ℕ → List StampedItem) → air n (λ s t. map (λ x. x.item) (cond (nat_lt s n && nat_lt t n) (rest s t) []))
    ≡ air n (λ s t. map (λ x. x.item) (rest s t))
air-is n rest = over-alike _ _ n (λ u h. over-alike _ _ n
    (λ t k. ap (λ xs. map (λ x. x.load) (map (λ (x : StampedItem). x.item) xs)) (rest-is n u t (rest u t) h k)))

pub low_sites_end : LowSitesEnd
low_sites_end q r hs less are theirs =
    let all = settled_are_runs (length q.sites) (start_holding q) r are in
    let ends = low_runs_end q (held_runs (length q.sites) (start_holding q) r) hs less all.0 (kept (length q.sites) (start_holding q) r hs theirs)
    (λ s. refl) in
    let rest = rests_in_holdings (length q.sites) (held_runs (length q.sites) (start_holding q) r) ends.here ends.whole all.0 all.1 ends.parts ends.spread in
    record {
      here = ends.here;
      parts = λ s h. subst (λ x. IsPart x (ends.here s)) (inner (length q.sites) s (r.end s) (start_holding q s) h) (ends.parts s);
      whole = ends.whole;
      runs = ends.runs;
      said = ends.said;
      spread = subst (λ a. IsSpread (length q.sites) (record { here = ends.here; air = a }) ends.whole) (air-is (length q.sites) r.rest) ends.spread;
      rests = (
        (λ idle.
            let both = rest.0 idle in (
              λ s h. subst IsStill (inner (length q.sites) s (r.end s) (start_holding q s) h) (both.0 s h),
              λ s t h k. sym (rest-is (length q.sites) s t (r.rest s t) h k) ∙ both.1 s t h k,
            )),
        (λ (still, none). rest.1 (
          λ s h. subst IsStill (sym (inner (length q.sites) s (r.end s) (start_holding q s) h)) (still s h),
          λ s t h k. rest-is (length q.sites) s t (r.rest s t) h k ∙ none s t h k,
        )),
      );
    }
