-- The events of many sites one after the other, in an order in which what an event takes waits first on its link
-- (docs/HISTORIES.md, "History text").
use Rattle.std.specs.Prelude.{◌≡◌, ◌<◌, ◌≤◌, ◌==◌, ℕ, cond, List, [], ◌∷◌, ◌++◌, length, drop, map, Option, Some, IfSome, option_to_list}
use Rattle.std.specs.List.{AllByRecursion, filter}
use Rattle.np_calculus.specs.Config.{Config}
use Rattle.np_calculus.specs.FrameRule.{Every}
use Rattle.np_calculus.specs.Reductions.{apply}
use Rattle.np_calculus.specs.Sight.{inside}
use Rattle.np_site_runs.specs.merged.Joined.{AreApart}
use Rattle.np_site_runs.specs.merged.Links.{Linked, Links, loads, spread}
use Rattle.np_site_runs.specs.merged.Steps.{IsItem, IsSpread, IsStep, with_site}
use Rattle.np_site_runs.specs.merged.Deeds.{Deed, IsDeedOf, StampedItem, Ticks, plain, put_for, taken_from}

-- The events of n sites, whatever they do: each site's by a clock that is 0 at first. On each link what is put is what is
-- taken, and then what is left.
pub record AreClocked (n : ℕ) (deeds : ℕ → List Deed) (rest : ℕ → ℕ → List StampedItem) : Type 0 where
  pub own : (s : ℕ) → AllByRecursion (IsDeedOf n s) (deeds s)
  pub ticks : (s : ℕ) → Ticks 0 (deeds s)
  pub others : (s : ℕ) → n ≤ s → deeds s ≡ []
  pub links : (s t : ℕ) → put_for t (deeds s) ≡ taken_from s (deeds t) ++ rest s t

-- the items that wait for a site from a site
abbrev pub Waiting : Type 0
Waiting = ℕ → ℕ → List StampedItem

-- nothing waits
abbrev pub none_waits : Waiting
none_waits u v = []

-- the deeds of a site
abbrev pub own : ℕ → List Deed → List Deed
own s = filter (λ d. d.event.event.site == s)

-- what a deed takes of what waits from u to v, and what it puts there
abbrev pub takes_at : ℕ → ℕ → ℕ → Option StampedItem → List StampedItem
takes_at u v s o = cond (s == v) (filter (λ x. x.item.sender == u) (option_to_list o)) []

abbrev pub puts_at : ℕ → ℕ → ℕ → Option StampedItem → List StampedItem
puts_at u v s o = cond (s == u) (filter (λ x. x.item.receiver == v) (option_to_list o)) []

abbrev pub takes : ℕ → ℕ → Deed → List StampedItem
takes u v d = takes_at u v d.event.event.site d.taken

abbrev pub puts : ℕ → ℕ → Deed → List StampedItem
puts u v d = puts_at u v d.event.event.site d.put

-- what waits without what a deed takes, and then also with what it puts
abbrev pub without : Waiting → Deed → Waiting
without w d u v = drop (length (takes u v d)) (w u v)

abbrev pub moved : Waiting → Deed → Waiting
moved w d u v = without w d u v ++ puts u v d

-- what a deed takes waits first
abbrev pub TakesFirst : Waiting → Deed → Type 0
TakesFirst w d = (u v : ℕ) → w u v ≡ takes u v d ++ without w d u v

-- each deed takes what waits first
abbrev pub Flows : Waiting → List Deed → Waiting → Type 0
Flows w [] rest = (u v : ℕ) → w u v ≡ rest u v
Flows w (d ∷ ds) rest = TakesFirst w d × Flows (moved w d) ds rest

-- the event is of one of n sites, and puts nothing on its way to another
pub record IsAmong (n : ℕ) (d : Deed) : Type 0 where
  pub at : d.event.event.site < n
  pub to : IfSome d.put (λ x. x.item.receiver < n)

-- the deeds of n sites one after the other: those of each site are what it did, and each takes what waits first
pub record AreInTurn (n : ℕ) (deeds : ℕ → List Deed) (rest : Waiting) (ds : List Deed) : Type 0 where
  pub each : (s : ℕ) → own s ds ≡ deeds s
  pub among : AllByRecursion (IsAmong n) ds
  pub flow : Flows none_waits ds rest

-- there is such an order: that of their stamps
abbrev pub HaveTurns : Type 0
HaveTurns = (n : ℕ) (deeds : ℕ → List Deed) (rest : Waiting) → AreClocked n deeds rest → (ds : List Deed) × AreInTurn n deeds rest ds

-- ---- one of them

-- the links between n sites have just the items that wait
pub record WaitsOn (n : ℕ) (link : Links) (w : Waiting) : Type 0 where
  pub shows : (u v : ℕ) → link u v ≡ map (λ x. x.item) (w u v)
  pub none : (u v : ℕ) → n ≤ u → w u v ≡ []

-- what holds when a deed's turn comes
pub record IsTurn (n : ℕ) (g : Linked) (c : Config) (w : Waiting) (d : Deed) : Type 0 where
  pub spread : IsSpread n (spread n g) c
  pub waits : WaitsOn n g.link w
  pub among : IsAmong n d
  pub first : TakesFirst w d

-- what is taken then is under way, and apart from what the site has
pub record TakesApart (g : Linked) (d : Deed) : Type 0 where
  pub items : Every IsItem (loads (plain d.taken))
  pub apart : AreApart (inside (g.here d.event.event.site) ∷ loads (plain d.taken))

abbrev pub TurnIsApart : Type 0
TurnIsApart = (n : ℕ) (g : Linked) (c : Config) (w : Waiting) (d : Deed) → IsTurn n g c w d → TakesApart g d

-- the site has this after the deed, the others have what they had, and the whole has made the deed's event
pub record GoesOn (n : ℕ) (g : Linked) (c : Config) (w : Waiting) (d : Deed) (now : Config) : Type 0 where
  pub next : Linked
  pub here : (u : ℕ) → next.here u ≡ with_site g.here d.event.event.site now u
  pub waits : WaitsOn n next.link (moved w d)
  pub after : Config
  pub applies : apply c d.event.event ≡ Some after
  pub spread : IsSpread n (spread n next) after

abbrev pub TurnGoesOn : Type 0
TurnGoesOn = (n : ℕ) (g : Linked) (c : Config) (w : Waiting) (d : Deed) (now : Config) → IsTurn n g c w d
    → IsStep d.event.event (g.here d.event.event.site) (loads (plain d.taken)) now (loads (plain d.put)) → GoesOn n g c w d now
