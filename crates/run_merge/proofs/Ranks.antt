-- What is ranked, in order of stamps and then of sites: the laws of merged histories.
use Rattle.std.proofs.Common.{◌≡◌, ◌≢◌, ◌<◌, ◌==◌, ◌++◌, ℕ, zero, suc, true, false, not, ◌&&◌, List, [], ◌∷◌, length, map, get_or, refl, sym, ap, ap₂, ◌∙◌, arith, append-nil}
use Rattle.std.proofs.lemmas.Bool.Decides.{nat_tests}
use Rattle.std.proofs.lemmas.Cmp.{then_total, on_total}
use Rattle.std.proofs.lemmas.List.Elements.{filter-append, All-from_recursion}
use Rattle.std.proofs.lemmas.List.Sorted.{ranks_by}
use Rattle.std.proofs.lemmas.Simd.{map-map}
use Rattle.std.specs.Borrow.{Bor}
use Rattle.std.specs.Cmp.{IsTotalOrder, IsStrictWeakOrder, nat_cmp_total}
use Rattle.std.specs.List.{AllByRecursion, filter, flat_map}
use Rattle.std.specs.List.Sorted.{ties}
use Rattle.std.specs.Ordering.{is_lt}
use Rattle.np_syntax.specs.declared.event.Event.{Event}
use Rattle.stamp_history.specs.declared.stamped.Stamped.{Stamped}
use Rattle.stamp_history.specs.Histories.{Recorded, IsHistory, Rises}
use Rattle.run_merge.specs.declared.rank.Rank.{Rank}
use Rattle.run_merge.specs.declared.rank.Ranked.{Ranked}
use Rattle.run_merge.specs.InOrder.{in_order, Ascends}
use Rattle.run_merge.specs.Laws.{IsAscending, KeepsHistories, KeepsEvents, HasNoOthers, IsOnly, HaveOwnSites, HasOwnSite, IsNoLater, IsInOrder, of_site}
use Rattle.run_merge.specs.Merged.{rank_cmp, comes_before, ranked, events_of, merged, items, shown}
use Rattle.run_merge.proofs.InOrder.{all_weaker, all_map, all_flat_map, keeps_all, keeps_none, filter_within, filter_alike, filter_map_back, all_in_order, in_order-map, ascends-in_order, filter-in_order, in_order-ascends, one_order}

total : IsTotalOrder rank_cmp
total = then_total (on_total (λ a. a.stamp) nat_cmp_total) (on_total (λ a. a.site) nat_cmp_total)

pub ranks_order : {X : Type 0} → IsStrictWeakOrder (comes_before {X = X})
ranks_order = ranks_by total (λ r. r.rank)

-- ---- the order in words

no_later : (a b : Rank) → is_lt (rank_cmp b a) ≡ false → IsNoLater a b
no_later a b h = grind (arith, nat_tests)

not_before : (a b : Rank) → IsNoLater a b → is_lt (rank_cmp b a) ≡ false
not_before a b h = grind (arith, nat_tests)

in_order-words : {X : Type 0} (rs : List (Ranked X)) → Ascends comes_before rs → IsInOrder rs
in_order-words [] up = tt
in_order-words (r ∷ rs) up =
    (all_weaker (λ later. comes_before later r ≡ false) (λ later. IsNoLater r.rank later.rank) (λ later h. no_later r.rank later.rank h) rs up.0, in_order-words rs up.1)

words-in_order : {X : Type 0} (rs : List (Ranked X)) → IsInOrder rs → Ascends comes_before rs
words-in_order [] up = tt
words-in_order (r ∷ rs) up =
    (all_weaker (λ later. IsNoLater r.rank later.rank) (λ later. comes_before later r ≡ false) (λ later h. not_before r.rank later.rank h) rs up.0, words-in_order rs up.1)

pub ascending : IsAscending
ascending hs = in_order-words (merged hs) (ascends-in_order (comes_before {X = Event}) ranks_order (flat_map events_of hs))

-- ---- sites

same_site : (s : ℕ) (t : ℕ) → t ≡ s → (t == s) ≡ true
same_site s t e = grind (arith, nat_tests)

other_site : (s : ℕ) (t : ℕ) → t ≢ s → (t == s) ≡ false
other_site s t ne = grind (arith, nat_tests)

-- what each history gives has its site
abbrev pub IsOfOwn : {X : Type 0} → (Recorded → List (Ranked X)) → Type 0
IsOfOwn f = (h : Recorded) → AllByRecursion (λ r. r.rank.site ≡ h.site) (f h)

module _ {X : Type 0} (f : Recorded → List (Ranked X)) (own : IsOfOwn f) where
  pub site_itself : (h : Recorded) → of_site h.site (f h) ≡ f h
  site_itself h = keeps_all (λ r. r.rank.site == h.site) (f h)
      (all_weaker (λ r. r.rank.site ≡ h.site) (λ r. (r.rank.site == h.site) ≡ true) (λ r e. same_site h.site r.rank.site e) (f h) (own h))

  site_other : (h : Recorded) (s : ℕ) → h.site ≢ s → of_site s (f h) ≡ []
  site_other h s apart = keeps_none (λ r. r.rank.site == s) (f h)
      (all_weaker (λ r. r.rank.site ≡ h.site) (λ r. (r.rank.site == s) ≡ false) (λ r e. other_site s r.rank.site (λ t. apart (sym e ∙ t))) (f h) (own h))

  of_joined : (h : Recorded) (hs : List Recorded) (s : ℕ) → of_site s (flat_map f (h ∷ hs)) ≡ of_site s (f h) ++ of_site s (flat_map f hs)
  of_joined h hs s = filter-append (λ r. r.rank.site == s) (f h) (flat_map f hs)

  none_there : (hs : List Recorded) (s : ℕ) → AllByRecursion (λ h. h.site ≢ s) hs → of_site s (flat_map f hs) ≡ []
  none_there [] s apart = refl
  none_there (h ∷ hs) s apart = of_joined h hs s ∙ ap₂ (λ xs ys. xs ++ ys) (site_other h s apart.0) (none_there hs s apart.1)

  one_there : (hs : List Recorded) (k : ℕ) (d : Recorded) → HaveOwnSites hs → k < length hs → of_site (get_or hs k d).site (flat_map f hs) ≡ f (get_or hs k d)
  one_there [] k d sites within = absurd (omega arith)
  one_there (h ∷ hs) zero d sites within =
      of_joined h hs h.site ∙ ap₂ (λ xs ys. xs ++ ys) (site_itself h) (none_there hs h.site sites.0) ∙ append-nil (f h)
  one_there (h ∷ hs) (suc k) d sites within =
      let inside : k < length hs = omega arith in
      let apart = All-from_recursion (λ other. other.site ≢ h.site) hs sites.0 k d inside in
      of_joined h hs (get_or hs k d).site ∙ ap₂ (λ xs ys. xs ++ ys) (site_other h (get_or hs k d).site (λ e. apart (sym e))) (one_there hs k d sites.1 inside)

  -- and so it is where all is in order
  pub site_none : (hs : List Recorded) (s : ℕ) → AllByRecursion (λ h. h.site ≢ s) hs → of_site s (in_order comes_before (flat_map f hs)) ≡ []
  site_none hs s apart = filter-in_order comes_before ranks_order (λ r. r.rank.site == s) (flat_map f hs) ∙ ap (in_order comes_before) (none_there hs s apart)

  pub site_one : (hs : List Recorded) (k : ℕ) (d : Recorded) → HaveOwnSites hs → k < length hs → Ascends comes_before (f (get_or hs k d))
      → of_site (get_or hs k d).site (in_order comes_before (flat_map f hs)) ≡ f (get_or hs k d)
  site_one hs k d sites within up =
      filter-in_order comes_before ranks_order (λ r. r.rank.site == (get_or hs k d).site) (flat_map f hs)
      ∙ ap (in_order comes_before) (one_there hs k d sites within)
      ∙ in_order-ascends comes_before ranks_order (f (get_or hs k d)) up

-- ---- events

same_sites : (s : ℕ) (es : List Stamped) → AllByRecursion (λ r. r.rank.site ≡ s) (map (ranked s) es)
same_sites s [] = tt
same_sites s (e ∷ es) = (refl, same_sites s es)

pub events_own : IsOfOwn events_of
events_own h = same_sites h.site h.events

below : (s : ℕ) (e f : Stamped) → e.stamp < f.stamp → comes_before (ranked s f) (ranked s e) ≡ false
below s e f h = grind (arith, nat_tests)

ascends-ranked : (s : ℕ) (es : List Stamped) → Rises es → Ascends comes_before (map (ranked s) es)
ascends-ranked s [] rises = tt
ascends-ranked s (e ∷ es) rises = (
  all_map (λ r. comes_before r (ranked s e) ≡ false) (ranked s) es
      (all_weaker (λ f. e.stamp < f.stamp) (λ f. comes_before (ranked s f) (ranked s e) ≡ false) (λ f h. below s e f h) es rises.0),
  ascends-ranked s es rises.1,
)

pub ascends-events : (h : Recorded) → IsHistory h → Ascends comes_before (events_of h)
ascends-events h is = ascends-ranked h.site h.events is.rising

pub keeps_histories : KeepsHistories
keeps_histories hs k d are within =
    site_one events_of events_own hs k d are.sites within
    (ascends-events (get_or hs k d) (All-from_recursion IsHistory hs are.each k d within))

pub no_others : HasNoOthers
no_others hs s apart = site_none events_of events_own hs s apart

-- ---- events that have the sites of their histories

own_ranked : (h : Recorded) → HasOwnSite h → AllByRecursion (λ r. r.item.site ≡ r.rank.site) (events_of h)
own_ranked h own = all_map (λ r. r.item.site ≡ r.rank.site) (ranked h.site) h.events own

all_ranked : (hs : List Recorded) → AllByRecursion HasOwnSite hs → AllByRecursion (λ r. r.item.site ≡ r.rank.site) (merged hs)
all_ranked hs own =
    all_in_order comes_before ranks_order (λ r. r.item.site ≡ r.rank.site) (flat_map events_of hs)
    (all_flat_map (λ r. r.item.site ≡ r.rank.site) events_of hs (all_weaker HasOwnSite (λ h. AllByRecursion (λ r. r.item.site ≡ r.rank.site) (events_of h)) own_ranked hs own))

pub keeps_events : KeepsEvents
keeps_events hs k d are own within =
    let h = get_or hs k d in
    filter_map_back (λ e. e.site == h.site) (λ r. r.item) (merged hs)
    ∙ ap items (filter_alike (λ r. r.item.site == h.site) (λ r. r.rank.site == h.site) (merged hs)
    (all_weaker (λ r. r.item.site ≡ r.rank.site) (λ r. (r.item.site == h.site) ≡ (r.rank.site == h.site)) (λ r e. ap (λ s. s == h.site) e) (merged hs) (all_ranked hs own)))
    ∙ ap items (keeps_histories hs k d are within)
    ∙ map-map (λ r. r.item) (ranked h.site) h.events

-- references to all events, in order, lead to the merged history
pub merged-shown : (rs : List (Ranked (Bor Event))) (hs : List Recorded) → map shown rs ≡ flat_map events_of hs
    → map (λ one. one.item.now) (in_order comes_before rs) ≡ items (merged hs)
merged-shown rs hs all =
    sym (map-map (λ r. r.item) shown (in_order comes_before rs))
    ∙ ap items (in_order-map comes_before comes_before shown (λ a b. refl) rs ∙ ap (in_order comes_before) all)

-- ---- the only one

tie_site : (a b : Rank) → (not (is_lt (rank_cmp a b)) && not (is_lt (rank_cmp b a))) ≡ true → (b.site == a.site) ≡ true
tie_site a b h = grind (arith, nat_tests)

pub only : IsOnly
only hs es words alike =
    one_order comes_before ranks_order es (merged hs) (words-in_order es words) (ascends-in_order (comes_before {X = Event}) ranks_order (flat_map events_of hs))
    (λ x.
    let within = filter_within (ties comes_before x) (λ r. r.rank.site == x.rank.site) (λ r h. tie_site x.rank r.rank h) in
    sym (within es) ∙ ap (filter (ties comes_before x)) (alike x.rank.site) ∙ within (merged hs))
