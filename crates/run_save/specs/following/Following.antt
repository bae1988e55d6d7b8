-- Histories of which the merged events are those of a list (docs/HISTORIES.md, "History text").
use Rattle.std.specs.Prelude.{◌≡◌, ◌≢◌, ◌<◌, ◌+◌, ◌==◌, ℕ, List, [], ◌∷◌, ◌++◌, length, take, count_by, slice_get, Some}
use Rattle.std.specs.List.{AllByRecursion}
use Rattle.np_syntax.specs.declared.event.Event.{Event}
use Rattle.stamp_history.specs.declared.stamped.Stamped.{Stamped}
use Rattle.stamp_history.specs.Histories.{IsHistory, Recorded}
use Rattle.run_merge.specs.declared.rank.Ranked.{Ranked}
use Rattle.run_merge.specs.Laws.{HasOwnSite}
use Rattle.run_merge.specs.Merged.{items, merged}

-- the stamps are this number, the next one, and so on
abbrev pub AreNumbered : {X : Type 0} → ℕ → List (Ranked X) → Type 0
AreNumbered n [] = Unit {0}
AreNumbered n (r ∷ rs) = (r.rank.stamp ≡ n) × AreNumbered (n + 1) rs

-- the merged histories have these events, in this order, with the stamps 1, 2, 3 and so on
pub record AreOf (events : List Event) (hs : List Recorded) : Type 0 where
  pub items : items (merged hs) ≡ events
  pub stamps : AreNumbered 1 (merged hs)

-- each history is that of the site with the number of its place
pub record AreInPlace (hs : List Recorded) : Type 0 where
  pub each : (s : ℕ) (h : Recorded) → slice_get hs s ≡ Some h → (h.site ≡ s) × IsHistory h

-- how many of the events are of a site
abbrev pub events_at : ℕ → List Event → ℕ
events_at s = count_by (λ e. e.site == s)

-- ---- one event more

-- the history of the event's site has it as one event more, with this stamp, and the others have the events that they had
pub record HaveOneMore (old new : List Recorded) (e : Event) (stamp : ℕ) : Type 0 where
  pub count : length new ≡ length old
  pub at : e.site < length old
  pub there : (h k : Recorded) → slice_get old e.site ≡ Some h → slice_get new e.site ≡ Some k
      → k.events ≡ h.events ++ record { stamp = stamp; event = e } ∷ []
  pub others : (s : ℕ) (h k : Recorded) → s ≢ e.site → slice_get old s ≡ Some h → slice_get new s ≡ Some k → k.events ≡ h.events

abbrev pub NoneFollow : Type 0
NoneFollow = (hs : List Recorded) → ((s : ℕ) (h : Recorded) → slice_get hs s ≡ Some h → h.events ≡ []) → AreOf [] hs

abbrev pub OneMoreFollows : Type 0
OneMoreFollows = (events : List Event) (e : Event) (old new : List Recorded) → AreInPlace old → AreInPlace new → AreOf events old
    → HaveOneMore old new e (length events + 1) → AreOf (events ++ e ∷ []) new

-- ---- what comes behind a list

-- histories at a later time: what is added to each is stamped above this number
pub record HaveLater (n : ℕ) (old new : List Recorded) : Type 0 where
  pub count : length new ≡ length old
  pub each : (s : ℕ) (h k : Recorded) → slice_get old s ≡ Some h → slice_get new s ≡ Some k
      → (added : List Stamped) × (k.events ≡ h.events ++ added) × AllByRecursion (λ e. n < e.stamp) added

-- the merged histories begin with the events of the list, with the stamps 1, 2, 3 and so on, and each event behind them has a greater stamp
pub record IsResumed (events : List Event) (hs : List Recorded) : Type 0 where
  pub first : List (Ranked Event)
  pub rest : List (Ranked Event)
  pub is : merged hs ≡ first ++ rest
  pub its : items first ≡ events
  pub stamps : AreNumbered 1 first
  pub later : AllByRecursion (λ r. length events < r.rank.stamp) rest

abbrev pub ResumesWhereLater : Type 0
ResumesWhereLater = (events : List Event) (old new : List Recorded) → AreInPlace old → AreInPlace new → AreOf events old
    → HaveLater (length events) old new
    → IsResumed events new

-- ---- room

-- where the first events of a list were done, the site of the next one has done fewer than the whole list has of it
abbrev pub RoomIsLeft : Type 0
RoomIsLeft = (events : List Event) (k : ℕ) (e : Event) (hs : List Recorded) (h : Recorded) → AreInPlace hs → AllByRecursion HasOwnSite hs
    → items (merged hs) ≡ take k events → slice_get events k ≡ Some e → slice_get hs e.site ≡ Some h
    → length h.events < events_at e.site events
