-- What the sites did, in the order of the merged history.
use Rattle.std.proofs.Common.{◌≡◌, ◌≢◌, ◌<◌, ◌≤◌, ◌==◌, ◌⊎◌, inl, inr, ⊎_elim, ℕ, zero, suc, false, List, [], ◌∷◌, ◌++◌, length, map, get_or, flat_map, refl, sym, ap, ap₂, subst, ◌∙◌, map-id, arith}
use Rattle.std.proofs.lemmas.Bool.Decides.{nat_tests}
use Rattle.std.proofs.lemmas.List.{map-append}
use Rattle.std.proofs.lemmas.List.Elements.{All-from_recursion}
use Rattle.std.proofs.lemmas.Simd.{map-map}
use Rattle.std.specs.List.{AllByRecursion}
use Rattle.std.specs.Ordering.{is_lt}
use Rattle.np_syntax.specs.declared.event.Event.{Event}
use Rattle.stamp_history.specs.Histories.{Recorded, IsHistory, without_events}
use Rattle.run_merge.specs.declared.rank.Rank.{Rank}
use Rattle.run_merge.specs.declared.rank.Ranked.{Ranked}
use Rattle.run_merge.specs.InOrder.{in_order, Ascends}
use Rattle.run_merge.specs.Laws.{of_site}
use Rattle.run_merge.specs.Merged.{rank_cmp, comes_before, ranked, events_of, merged, items}
use Rattle.run_merge.proofs.InOrder.{all_weaker, all_map, all_flat_map, all_in_order, ascends-in_order, filter_alike, filter_map_back, in_order-map}
use Rattle.run_merge.proofs.Ranks.{ranks_order, IsOfOwn, ascends-events, site_none, site_one}
use Rattle.np_site_runs.specs.merged.Deeds.{AreSiteRuns, Deed, IsDeedOf, SiteRuns}
use Rattle.np_site_runs.specs.merged.StampedLaws.{AreRecorded}
use Rattle.np_site_runs.specs.merged.Turns.{AreClocked, own}
use Rattle.np_site_runs.proofs.merged.Flowing.{IsByStamp, all_both}

abbrev pub ranked_deed : ℕ → Deed → Ranked Deed
ranked_deed s d = record { rank = record { stamp = d.event.stamp; site = s }; item = d }

abbrev pub deeds_of : (ℕ → List Deed) → Recorded → List (Ranked Deed)
deeds_of deeds h = map (ranked_deed h.site) (deeds h.site)

-- the deeds in the order of their events' ranks
abbrev pub all_deeds : (ℕ → List Deed) → List Recorded → List (Ranked Deed)
all_deeds deeds hs = in_order comes_before (flat_map (deeds_of deeds) hs)

abbrev pub in_turn : (ℕ → List Deed) → List Recorded → List Deed
in_turn deeds hs = items (all_deeds deeds hs)

abbrev pub event_of : Ranked Deed → Ranked Event
event_of r = record { rank = r.rank; item = r.item.event.event }

-- the rank of a deed is that of its event
pub record HasItsRank (r : Ranked Deed) : Type 0 where
  pub site : r.item.event.event.site ≡ r.rank.site
  pub stamp : r.item.event.stamp ≡ r.rank.stamp

pub all_unmap : {A B : Type 0} (P : B → Type 0) (f : A → B) (xs : List A) → AllByRecursion P (map f xs) → AllByRecursion (λ x. P (f x)) xs
all_unmap P f [] all = tt
all_unmap P f (x ∷ xs) all = (all.0, all_unmap P f xs all.1)

-- a history of the site, or none
pub found : (hs : List Recorded) (s : ℕ) → ((k : ℕ) × (k < length hs) × ((get_or hs k (without_events 0 0)).site ≡ s)) ⊎ AllByRecursion (λ h. h.site ≢ s) hs
found [] s = inr tt
found (h ∷ hs) s = at (same_or_not h.site s) (found hs s)
  where
    same_or_not : (a b : ℕ) → (a ≡ b) ⊎ (a ≢ b)
    same_or_not a b = grind (arith, nat_tests)

    at : (h.site ≡ s) ⊎ (h.site ≢ s) → ((k : ℕ) × (k < length hs) × ((get_or hs k (without_events 0 0)).site ≡ s)) ⊎ AllByRecursion (λ h. h.site ≢ s) hs
        → ((k : ℕ) × (k < suc (length hs)) × ((get_or (h ∷ hs) k (without_events 0 0)).site ≡ s)) ⊎ (h.site ≢ s × AllByRecursion (λ h. h.site ≢ s) hs)
    at (inl same) more = inl (zero, omega arith, same)
    at (inr other) (inl (k, within, is)) = inl (suc k, omega arith, is)
    at (inr other) (inr none) = inr (other, none)

-- ---- what holds of each

each_of : (P : Ranked Deed → Type 0) (deeds : ℕ → List Deed) → ((s : ℕ) → AllByRecursion P (map (ranked_deed s) (deeds s))) → (hs : List Recorded)
    → AllByRecursion (λ h. AllByRecursion P (deeds_of deeds h)) hs
each_of P deeds is [] = tt
each_of P deeds is (h ∷ hs) = (is h.site, each_of P deeds is hs)

all_here : (P : Ranked Deed → Type 0) (deeds : ℕ → List Deed) → ((s : ℕ) → AllByRecursion P (map (ranked_deed s) (deeds s))) → (hs : List Recorded)
    → AllByRecursion P (all_deeds deeds hs)
all_here P deeds is hs = all_in_order comes_before ranks_order P (flat_map (deeds_of deeds) hs) (all_flat_map P (deeds_of deeds) hs (each_of P deeds is hs))

pub all_in_turn : (P : Deed → Type 0) (deeds : ℕ → List Deed) → ((s : ℕ) → AllByRecursion P (deeds s)) → (hs : List Recorded) → AllByRecursion P (in_turn deeds hs)
all_in_turn P deeds is hs =
    all_map P (λ r. r.item) (all_deeds deeds hs) (all_here (λ r. P r.item) deeds (λ s. all_map (λ r. P r.item) (ranked_deed s) (deeds s) (is s)) hs)

-- ---- order

no_lower : (a b : Rank) → is_lt (rank_cmp b a) ≡ false → a.stamp ≤ b.stamp
no_lower a b h = grind (arith, nat_tests)

no_earlier : (a b : Ranked Deed) → HasItsRank a → HasItsRank b → comes_before b a ≡ false → a.item.event.stamp ≤ b.item.event.stamp
no_earlier a b own other h =
    let low : a.rank.stamp ≤ b.rank.stamp = no_lower a.rank b.rank h in
    let first : a.item.event.stamp ≡ a.rank.stamp = own.stamp in
    let second : b.item.event.stamp ≡ b.rank.stamp = other.stamp in
    omega arith

by_stamp : (rs : List (Ranked Deed)) → AllByRecursion HasItsRank rs → Ascends comes_before rs → IsByStamp (items rs)
by_stamp [] are up = tt
by_stamp (r ∷ rs) are up = (
  all_map (λ e. r.item.event.stamp ≤ e.event.stamp) (λ r. r.item) rs
      (all_weaker (λ x. HasItsRank x × (comes_before x r ≡ false)) (λ x. r.item.event.stamp ≤ x.item.event.stamp) (λ x is. no_earlier r x are.0 is.0 is.1) rs
      (all_both HasItsRank (λ x. comes_before x r ≡ false) rs are.1 up.0)),
  by_stamp rs are.1 up.1,
)

none_before : (s : ℕ) (d : Deed) (ds : List Deed) → AllByRecursion (λ x. comes_before x (ranked s d.event) ≡ false) (map (ranked s) (map (λ d. d.event) ds))
    → AllByRecursion (λ x. comes_before x (ranked_deed s d) ≡ false) (map (ranked_deed s) ds)
none_before s d [] all = tt
none_before s d (e ∷ es) all = (all.0, none_before s d es all.1)

ascends-deeds : (s : ℕ) (ds : List Deed) → Ascends comes_before (map (ranked s) (map (λ d. d.event) ds)) → Ascends comes_before (map (ranked_deed s) ds)
ascends-deeds s [] up = tt
ascends-deeds s (d ∷ ds) up = (none_before s d ds up.0, ascends-deeds s ds up.1)

-- ---- deeds and their events

own-ranks : (n s : ℕ) (ds : List Deed) → AllByRecursion (IsDeedOf n s) ds → AllByRecursion HasItsRank (map (ranked_deed s) ds)
own-ranks n s [] are = tt
own-ranks n s (d ∷ ds) are = (record { site = are.0.at; stamp = refl }, own-ranks n s ds are.1)

same-sites : (s : ℕ) (ds : List Deed) → AllByRecursion (λ r. r.rank.site ≡ s) (map (ranked_deed s) ds)
same-sites s [] = tt
same-sites s (d ∷ ds) = (refl, same-sites s ds)

deeds-own : (deeds : ℕ → List Deed) → IsOfOwn (deeds_of deeds)
deeds-own deeds h = same-sites h.site (deeds h.site)

events-deeds : (s : ℕ) (ds : List Deed) → map event_of (map (ranked_deed s) ds) ≡ map (ranked s) (map (λ d. d.event) ds)
events-deeds s [] = refl
events-deeds s (d ∷ ds) = ap (λ xs. ranked s d.event ∷ xs) (events-deeds s ds)

events-joined : (deeds : ℕ → List Deed) (hs : List Recorded) → AllByRecursion (λ h. h.events ≡ map (λ d. d.event) (deeds h.site)) hs
    → map event_of (flat_map (deeds_of deeds) hs) ≡ flat_map events_of hs
events-joined deeds [] are = refl
events-joined deeds (h ∷ hs) are =
    map-append event_of (deeds_of deeds h) (flat_map (deeds_of deeds) hs)
    ∙ ap₂ (λ xs ys. xs ++ ys) (events-deeds h.site (deeds h.site) ∙ ap (map (ranked h.site)) (sym are.0)) (events-joined deeds hs are.1)

-- whatever the events of sites do
pub clocked : (n : ℕ) (r : SiteRuns) → AreSiteRuns n r → AreClocked n r.deeds r.rest
clocked n r runs = record { own = λ s. (runs.each s).own; ticks = λ s. (runs.each s).ticks; others = runs.others; links = runs.links }

module _ (n : ℕ) (r : SiteRuns) (hs : List Recorded) (runs : AreClocked n r.deeds r.rest) (are : AreRecorded hs r) where
  pub all-ranks : AllByRecursion HasItsRank (all_deeds r.deeds hs)
  all-ranks = all_here HasItsRank r.deeds (λ s. own-ranks n s (r.deeds s) (runs.own s)) hs

  pub turns-by_stamp : IsByStamp (in_turn r.deeds hs)
  turns-by_stamp = by_stamp (all_deeds r.deeds hs) all-ranks (ascends-in_order (comes_before {X = Deed}) ranks_order (flat_map (deeds_of r.deeds) hs))

  -- the events are those of the merged history
  pub turns-merged : map event_of (all_deeds r.deeds hs) ≡ merged hs
  turns-merged =
      in_order-map comes_before comes_before event_of (λ a b. refl) (flat_map (deeds_of r.deeds) hs) ∙ ap (in_order comes_before) (events-joined r.deeds hs are.events)

  pub turns-events : map (λ d. d.event.event) (in_turn r.deeds hs) ≡ items (merged hs)
  turns-events =
      map-map (λ (d : Deed). d.event.event) (λ (r : Ranked Deed). r.item) (all_deeds r.deeds hs)
      ∙ sym (map-map (λ (r : Ranked Event). r.item) event_of (all_deeds r.deeds hs))
      ∙ ap items turns-merged

  -- and those of a site are what it did
  pub of-site : (s : ℕ) → of_site s (all_deeds r.deeds hs) ≡ map (ranked_deed s) (r.deeds s)
  of-site s = ⊎_elim
      (λ (k, within, is).
      let h = get_or hs k (without_events 0 0) in
      let up = ascends-deeds h.site (r.deeds h.site)
      (subst (λ es. Ascends comes_before (map (ranked h.site) es))
      (All-from_recursion (λ h. h.events ≡ map (λ d. d.event) (r.deeds h.site)) hs are.events k (without_events 0 0) within)
      (ascends-events h (All-from_recursion IsHistory hs are.histories.each k (without_events 0 0) within))) in
      subst (λ s. of_site s (all_deeds r.deeds hs) ≡ map (ranked_deed s) (r.deeds s)) is
      (site_one (deeds_of r.deeds) (deeds-own r.deeds) hs k (without_events 0 0) are.histories.sites within up))
      (λ none. site_none (deeds_of r.deeds) (deeds-own r.deeds) hs s none ∙ ap (map (ranked_deed s)) (sym (are.others s none)))
      (found hs s)

  pub own-turns : (s : ℕ) → own s (in_turn r.deeds hs) ≡ r.deeds s
  own-turns s =
      filter_map_back (λ d. d.event.event.site == s) (λ r. r.item) (all_deeds r.deeds hs)
      ∙ ap items (filter_alike (λ r. r.item.event.event.site == s) (λ r. r.rank.site == s) (all_deeds r.deeds hs)
      (all_weaker HasItsRank (λ r. (r.item.event.event.site == s) ≡ (r.rank.site == s)) (λ r is. ap (λ t. t == s) is.site) (all_deeds r.deeds hs) all-ranks))
      ∙ ap items (of-site s)
      ∙ map-map (λ (r : Ranked Deed). r.item) (ranked_deed s) (r.deeds s)
      ∙ map-id (r.deeds s)
