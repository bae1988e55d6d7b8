-- The laws of the values that were printed.
use Rattle.std.proofs.Common.{◌≡◌, ◌==◌, ◌++◌, ℕ, true, false, cond, List, [], ◌∷◌, length, map, get_or, refl, sym, ap, ap₂, ◌∙◌, arith, count_by}
use Rattle.std.proofs.lemmas.List.{map-append, length-map}
use Rattle.std.proofs.lemmas.List.Sums.{length-filter}
use Rattle.std.proofs.lemmas.Simd.{map-map}
use Rattle.std.specs.Borrow.{Bor}
use Rattle.std.proofs.lemmas.Bool.Decides.{nat_tests}
use Rattle.std.proofs.lemmas.List.Elements.{filter-append, All-from_recursion}
use Rattle.std.specs.List.{AllByRecursion, filter, flat_map}
use Rattle.std.specs.Ordering.{is_lt}
use Rattle.np_syntax.specs.declared.event.Event.{Event}
use Rattle.np_syntax.specs.declared.value.Value.{Value}
use Rattle.stamp_history.specs.declared.stamped.Stamped.{Stamped}
use Rattle.stamp_history.specs.Histories.{Recorded, IsHistory, prints, is_print}
use Rattle.run_merge.specs.declared.rank.Rank.{Rank}
use Rattle.run_merge.specs.declared.rank.Ranked.{Ranked}
use Rattle.run_merge.specs.InOrder.{in_order, Ascends}
use Rattle.run_merge.specs.Laws.{FollowsPrints, KeepsSaid, IsOnlySaid, said_at}
use Rattle.run_merge.specs.Merged.{rank_cmp, comes_before, ranked, events_of, print_events, with_ranks, values_of, merged_values, at_site, said, shown}
use Rattle.run_merge.proofs.InOrder.{all_filter, filter_map_back, filter_rest, in_order-map, ascends-filter, filter-in_order}
use Rattle.run_merge.proofs.Ranks.{ranks_order, IsOfOwn, site_one, events_own, ascends-events}

-- ---- values with the ranks of events

all-with_ranks : (P : Rank → Type 0) (es : List (Ranked Event)) (vs : List Value) → AllByRecursion (λ e. P e.rank) es → AllByRecursion (λ v. P v.rank) (with_ranks es vs)
all-with_ranks P [] vs all = tt
all-with_ranks P (e ∷ es) [] all = tt
all-with_ranks P (e ∷ es) (v ∷ vs) all = (all.0, all-with_ranks P es vs all.1)

ascends-with_ranks : (es : List (Ranked Event)) (vs : List Value) → Ascends comes_before es → Ascends comes_before (with_ranks es vs)
ascends-with_ranks [] vs up = tt
ascends-with_ranks (e ∷ es) [] up = tt
ascends-with_ranks (e ∷ es) (v ∷ vs) up = (all-with_ranks (λ r. is_lt (rank_cmp r e.rank) ≡ false) es vs up.0, ascends-with_ranks es vs up.1)

ranks-with_ranks : (es : List (Ranked Event)) (vs : List Value) → length vs ≡ length es → map (λ v. v.rank) (with_ranks es vs) ≡ map (λ e. e.rank) es
ranks-with_ranks [] vs long = refl
ranks-with_ranks (e ∷ es) [] long = absurd (omega arith)
ranks-with_ranks (e ∷ es) (v ∷ vs) long = ap (λ xs. e.rank ∷ xs) (ranks-with_ranks es vs (omega arith))

sites-with_ranks : (s : ℕ) (es : List (Ranked Event)) (vs : List Value) → AllByRecursion (λ e. e.rank.site ≡ s) es → length vs ≡ length es
    → map at_site (with_ranks es vs) ≡ map (λ v. (s, v)) vs
sites-with_ranks s [] [] all long = refl
sites-with_ranks s [] (v ∷ vs) all long = absurd (omega arith)
sites-with_ranks s (e ∷ es) [] all long = refl
sites-with_ranks s (e ∷ es) (v ∷ vs) all long = ap₂ (λ t xs. (t, v) ∷ xs) all.0 (sites-with_ranks s es vs all.1 (omega arith))

-- ---- one value for each Print event

count_prints : (s : ℕ) (es : List Stamped) → length (print_events (map (ranked s) es)) ≡ count_by is_print es
count_prints s es =
    ap length (filter_map_back (λ e. prints e.item.kind) (ranked s) es) ∙ length-map (filter is_print es) (ranked s) ∙ length-filter is_print es

pub one_each : (h : Recorded) → IsHistory h → length h.said ≡ length (print_events (events_of h))
one_each h is = is.one_each ∙ sym (count_prints h.site h.events)

prints_own : (h : Recorded) → AllByRecursion (λ e. e.rank.site ≡ h.site) (print_events (events_of h))
prints_own h = all_filter (λ e. e.rank.site ≡ h.site) (λ e. prints e.item.kind) (events_of h) (events_own h)

values_own : IsOfOwn values_of
values_own h = all-with_ranks (λ r. r.site ≡ h.site) (print_events (events_of h)) h.said (prints_own h)

ascends-values : (h : Recorded) → IsHistory h → Ascends comes_before (values_of h)
ascends-values h is = ascends-with_ranks (print_events (events_of h)) h.said
    (ascends-filter comes_before ranks_order (λ e. prints e.item.kind) (events_of h) (ascends-events h is))

-- ---- the laws

pub keeps_said : KeepsSaid
keeps_said hs k d are within =
    let h = get_or hs k d in
    let is = All-from_recursion IsHistory hs are.each k d within in
    filter_map_back (λ p. p.0 == h.site) at_site (merged_values hs)
    ∙ ap (map at_site) (site_one values_of values_own hs k d are.sites within (ascends-values h is))
    ∙ sites-with_ranks h.site (print_events (events_of h)) h.said (prints_own h) (one_each h is)

joined : (hs : List Recorded) → AllByRecursion IsHistory hs → map (λ v. v.rank) (flat_map values_of hs) ≡ map (λ e. e.rank) (print_events (flat_map events_of hs))
joined [] each = refl
joined (h ∷ hs) each =
    map-append (λ v. v.rank) (values_of h) (flat_map values_of hs)
    ∙ ap₂ (λ xs ys. xs ++ ys) (ranks-with_ranks (print_events (events_of h)) h.said (one_each h each.0)) (joined hs each.1)
    ∙ sym (map-append (λ e. e.rank) (print_events (events_of h)) (print_events (flat_map events_of hs)))
    ∙ ap (map (λ e. e.rank)) (sym (filter-append (λ e. prints e.item.kind) (events_of h) (flat_map events_of hs)))

pub follows_prints : FollowsPrints
follows_prints hs are =
    in_order-map comes_before (λ a b. is_lt (rank_cmp a b)) (λ v. v.rank) (λ a b. refl) (flat_map values_of hs)
    ∙ ap (in_order (λ a b. is_lt (rank_cmp a b))) (joined hs are.each)
    ∙ sym (in_order-map comes_before (λ a b. is_lt (rank_cmp a b)) (λ e. e.rank) (λ a b. refl) (print_events (flat_map events_of hs)))
    ∙ ap (map (λ e. e.rank)) (sym (filter-in_order comes_before ranks_order (λ e. prints e.item.kind) (flat_map events_of hs)))

same_site : (s : ℕ) → (s == s) ≡ true
same_site s = grind (arith, nat_tests)

-- pairs are told by their first parts in order and by those of each first part
one_list : (xs ys : List (ℕ × Value)) → map (λ p. p.0) xs ≡ map (λ p. p.0) ys → ((s : ℕ) → said_at s xs ≡ said_at s ys) → xs ≡ ys
one_list [] [] order alike = refl
one_list [] (y ∷ ys) order alike = absurd cc
one_list (x ∷ xs) [] order alike = absurd cc
one_list (x ∷ xs) (y ∷ ys) order alike =
    let site : x.0 ≡ y.0 = cc in
    let rest : map (λ p. p.0) xs ≡ map (λ p. p.0) ys = cc in
    let here : (x.0 == x.0) ≡ true = same_site x.0 in
    let there : (y.0 == x.0) ≡ true = ap (λ s. s == x.0) (sym site) ∙ here in
    let firsts : x ∷ said_at x.0 xs ≡ y ∷ said_at x.0 ys =
    sym (ap (λ b. cond b (x ∷ said_at x.0 xs) (said_at x.0 xs)) here) ∙ alike x.0 ∙ ap (λ b. cond b (y ∷ said_at x.0 ys) (said_at x.0 ys)) there in
    let same : x ≡ y = cc in
    ap₂ (λ z zs. z ∷ zs) same
    (one_list xs ys rest (λ s. filter_rest (λ p. p.0 == s) x xs ys (alike s ∙ ap (λ z. said_at s (z ∷ ys)) (sym same))))

pub only_said : IsOnlySaid
only_said hs xs order alike = one_list xs (said hs) order alike

-- references to all values, in order, lead to what was printed
pub said-shown : (rs : List (Ranked (Bor Value))) (hs : List Recorded) → map shown rs ≡ flat_map values_of hs
    → map (λ one. (one.rank.site, one.item.now)) (in_order comes_before rs) ≡ said hs
said-shown rs hs all =
    sym (map-map at_site shown (in_order comes_before rs))
    ∙ ap (map at_site) (in_order-map comes_before comes_before shown (λ a b. refl) rs ∙ ap (in_order comes_before) all)
