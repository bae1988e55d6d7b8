-- What merged histories are, and what was printed in them (docs/HISTORIES.md, "History text").
use Rattle.std.specs.Prelude.{◌≡◌, ◌≢◌, ◌<◌, ◌≤◌, ◌==◌, ◌⊎◌, ℕ, List, [], ◌∷◌, map, length, slice_index_or}
use Rattle.std.specs.List.{AllByRecursion, filter}
use Rattle.np_syntax.specs.declared.event.Event.{Event}
use Rattle.np_syntax.specs.declared.value.Value.{Value}
use Rattle.stamp_history.specs.Histories.{Recorded, IsHistory}
use Rattle.run_merge.specs.declared.rank.Rank.{Rank}
use Rattle.run_merge.specs.declared.rank.Ranked.{Ranked}
use Rattle.run_merge.specs.Merged.{events_of, merged, items, print_events, merged_values, said}

-- no two histories have one site number
abbrev pub HaveOwnSites : List Recorded → Type 0
HaveOwnSites [] = Unit {0}
HaveOwnSites (h ∷ hs) = AllByRecursion (λ other. other.site ≢ h.site) hs × HaveOwnSites hs

pub record AreHistories (hs : List Recorded) : Type 0 where
  pub each : AllByRecursion IsHistory hs
  pub sites : HaveOwnSites hs

-- each event has the site of its history
abbrev pub HasOwnSite : Recorded → Type 0
HasOwnSite h = AllByRecursion (λ e. e.event.site ≡ h.site) h.events

-- by stamp, and where stamps are equal by site
abbrev pub IsNoLater : Rank → Rank → Type 0
IsNoLater a b = (a.stamp < b.stamp) ⊎ ((a.stamp ≡ b.stamp) × (a.site ≤ b.site))

-- each is no later than those after it
abbrev pub IsInOrder : {X : Type 0} → List (Ranked X) → Type 0
IsInOrder [] = Unit {0}
IsInOrder (r ∷ rs) = AllByRecursion (λ later. IsNoLater r.rank later.rank) rs × IsInOrder rs

abbrev pub of_site : {X : Type 0} → ℕ → List (Ranked X) → List (Ranked X)
of_site s = filter (λ r. r.rank.site == s)

-- ---- the merged history

abbrev pub IsAscending : Type 0
IsAscending = (hs : List Recorded) → IsInOrder (merged hs)

-- the events of a history's site are those of the history, in their order
abbrev pub KeepsHistories : Type 0
KeepsHistories = (hs : List Recorded) (k : ℕ) (d : Recorded) → AreHistories hs → k < length hs
    → of_site (slice_index_or hs k d).site (merged hs) ≡ events_of (slice_index_or hs k d)

-- a site that has no history has no event
abbrev pub HasNoOthers : Type 0
HasNoOthers = (hs : List Recorded) (s : ℕ) → AllByRecursion (λ h. h.site ≢ s) hs → of_site s (merged hs) ≡ []

-- where each event has its history's site, the events of a site are those of its history
abbrev pub KeepsEvents : Type 0
KeepsEvents = (hs : List Recorded) (k : ℕ) (d : Recorded) → AreHistories hs → AllByRecursion HasOwnSite hs → k < length hs
    → filter (λ e. e.site == (slice_index_or hs k d).site) (items (merged hs)) ≡ map (λ e. e.event) (slice_index_or hs k d).events

-- what is in order, and has the same events of each site, is the merged history
abbrev pub IsOnly : Type 0
IsOnly = (hs : List Recorded) (es : List (Ranked Event)) → IsInOrder es → ((s : ℕ) → of_site s es ≡ of_site s (merged hs)) → es ≡ merged hs

-- ---- the printed values

abbrev pub said_at : ℕ → List (ℕ × Value) → List (ℕ × Value)
said_at s = filter (λ p. p.0 == s)

-- there is one for each Print event of the merged history, in their order
abbrev pub FollowsPrints : Type 0
FollowsPrints = (hs : List Recorded) → AreHistories hs → map (λ v. v.rank) (merged_values hs) ≡ map (λ e. e.rank) (print_events (merged hs))

-- those of a history's site are those of the history, in their order
abbrev pub KeepsSaid : Type 0
KeepsSaid = (hs : List Recorded) (k : ℕ) (d : Recorded) → AreHistories hs → k < length hs
    → said_at (slice_index_or hs k d).site (said hs) ≡ map (λ v. ((slice_index_or hs k d).site, v)) (slice_index_or hs k d).said

-- what has the same sites in their order, and the same values of each, is what was printed
abbrev pub IsOnlySaid : Type 0
IsOnlySaid = (hs : List Recorded) (xs : List (ℕ × Value)) → map (λ p. p.0) xs ≡ map (λ p. p.0) (said hs)
    → ((s : ℕ) → said_at s xs ≡ said_at s (said hs)) → xs ≡ said hs
