-- The merged history, and the values that were printed (docs/HISTORIES.md, "History text").
use Rattle.std.specs.Prelude.{ℕ, Bool, List, [], ◌∷◌, map}
use Rattle.std.specs.Borrow.{Bor}
use Rattle.std.specs.List.{filter, flat_map}
use Rattle.std.specs.declared.cmp.Ordering.{Ordering}
use Rattle.std.specs.Ordering.{nat_cmp, then_cmp, on, is_lt}
use Rattle.np_syntax.specs.declared.event.Event.{Event}
use Rattle.np_syntax.specs.declared.value.Value.{Value}
use Rattle.stamp_history.specs.declared.stamped.Stamped.{Stamped}
use Rattle.stamp_history.specs.Histories.{Recorded, Stored, prints}
use Rattle.run_merge.specs.declared.rank.Rank.{Rank}
use Rattle.run_merge.specs.declared.rank.Ranked.{Ranked}
use Rattle.run_merge.specs.InOrder.{in_order}

-- by stamp, and then by site
abbrev pub rank_cmp : Rank → Rank → Ordering
rank_cmp = then_cmp (on (λ a. a.stamp) nat_cmp) (on (λ a. a.site) nat_cmp)

abbrev pub comes_before : {X : Type 0} → Ranked X → Ranked X → Bool
comes_before a b = is_lt (rank_cmp a.rank b.rank)

abbrev pub items : {X : Type 0} → List (Ranked X) → List X
items = map (λ r. r.item)

-- what a reference leads to
abbrev pub shown : {X : Type 0} → Ranked (Bor X) → Ranked X
shown r = record { rank = r.rank; item = r.item.now }

-- the histories of stored ones
abbrev pub past : List Stored → List Recorded
past = map (λ s. s.history)

-- ---- events

abbrev pub ranked : ℕ → Stamped → Ranked Event
ranked site e = record { rank = record { stamp = e.stamp; site = site }; item = e.event }

-- the events of a history, with their ranks
abbrev pub events_of : Recorded → List (Ranked Event)
events_of h = map (ranked h.site) h.events

-- all events of the histories, by stamp and then by site
abbrev pub merged : List Recorded → List (Ranked Event)
merged hs = in_order comes_before (flat_map events_of hs)

-- ---- printed values

-- the Print events among them
abbrev pub print_events : List (Ranked Event) → List (Ranked Event)
print_events = filter (λ e. prints e.item.kind)

-- each value has the rank of its event
abbrev pub with_ranks : List (Ranked Event) → List Value → List (Ranked Value)
with_ranks [] vs = []
with_ranks (e ∷ es) [] = []
with_ranks (e ∷ es) (v ∷ vs) = (record { rank = e.rank; item = v }) ∷ with_ranks es vs

-- the values of a history, with the ranks of its Print events
abbrev pub values_of : Recorded → List (Ranked Value)
values_of h = with_ranks (print_events (events_of h)) h.said

-- all values of the histories, by the stamps of their events and then by site
abbrev pub merged_values : List Recorded → List (Ranked Value)
merged_values hs = in_order comes_before (flat_map values_of hs)

-- a value with its site
abbrev pub at_site : Ranked Value → ℕ × Value
at_site v = (v.rank.site, v.item)

abbrev pub said : List Recorded → List (ℕ × Value)
said hs = map at_site (merged_values hs)
