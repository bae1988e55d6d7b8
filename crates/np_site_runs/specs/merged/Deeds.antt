-- What each of many sites did alone: its events with stamps by Lamport's rule, and the items that went between the sites
-- (docs/HISTORIES.md, "History text").
use Rattle.std.specs.Prelude.{◌≡◌, ◌<◌, ◌≤◌, ◌+◌, ◌==◌, max, ℕ, List, [], ◌∷◌, ◌++◌, map, Option, None, Some, IfSome, option_map}
use Rattle.std.specs.Prelude.{option_to_list}
use Rattle.std.specs.List.{AllByRecursion, filter, flat_map}
use Rattle.np_calculus.specs.Config.{Config}
use Rattle.np_site_runs.specs.merged.Links.{Item, loads, spread}
use Rattle.np_site_runs.specs.merged.Steps.{IsStep, Spread}
use Rattle.stamp_history.specs.declared.stamped.Stamped.{Stamped}

-- an item with the stamp of the event that put it on its way
pub record StampedItem : Type 0 where
  pub stamp : ℕ
  pub item : Item

-- an event of a site, with the item that it takes and the one that it puts on its way
pub record Deed : Type 0 where
  pub event : Stamped
  pub taken : Option StampedItem
  pub put : Option StampedItem

abbrev pub plain : Option StampedItem → Option Item
plain = option_map (λ x. x.item)

-- each event is a step of the site, from the one configuration on to the other
abbrev pub Leads : Config → List Deed → Config → Type 0
Leads old [] new = old ≡ new
Leads old (d ∷ ds) new = (now : Config) × IsStep d.event.event old (loads (plain d.taken)) now (loads (plain d.put)) × Leads now ds new

-- Lamport's rule: the clock after an event is at least one more than it was, and than the stamp of the item that the event takes
abbrev pub ticked : ℕ → Option StampedItem → ℕ
ticked clock None = clock + 1
ticked clock (Some x) = max clock x.stamp + 1

-- an event has as its stamp what the clock is then, and so has the item that it puts on its way
pub record HasStamps (clock : ℕ) (d : Deed) : Type 0 where
  pub event : ticked clock d.taken ≤ d.event.stamp
  pub put : IfSome d.put (λ x. x.stamp ≡ d.event.stamp)

-- so it is with each of them, from a clock on
abbrev pub Ticks : ℕ → List Deed → Type 0
Ticks clock [] = Unit {0}
Ticks clock (d ∷ ds) = HasStamps clock d × Ticks d.event.stamp ds

-- and no clock goes on by more than Lamport's rule asks for
abbrev pub TicksByOne : ℕ → List Deed → Type 0
TicksByOne clock [] = Unit {0}
TicksByOne clock (d ∷ ds) = (d.event.stamp ≤ ticked clock d.taken) × TicksByOne d.event.stamp ds

-- the clock after them
abbrev pub clock_after : ℕ → List Deed → ℕ
clock_after clock [] = clock
clock_after clock (d ∷ ds) = clock_after d.event.stamp ds

-- the items that are taken from a site, and those that are put on their way to one
abbrev pub taken_from : ℕ → List Deed → List StampedItem
taken_from s ds = filter (λ x. x.item.sender == s) (flat_map (λ d. option_to_list d.taken) ds)

abbrev pub put_for : ℕ → List Deed → List StampedItem
put_for t ds = filter (λ x. x.item.receiver == t) (flat_map (λ d. option_to_list d.put) ds)

-- an event of this site, one of n, that puts nothing on its way to another than the n
pub record IsDeedOf (n site : ℕ) (d : Deed) : Type 0 where
  pub at : d.event.event.site ≡ site
  pub to : IfSome d.put (λ x. x.item.receiver < n)

-- what a site, one of n, did alone, from one configuration on to another and from a clock that is 0
pub record IsSiteRun (n site : ℕ) (start : Config) (ds : List Deed) (end : Config) : Type 0 where
  pub own : AllByRecursion (IsDeedOf n site) ds
  pub leads : Leads start ds end
  pub ticks : Ticks 0 ds

-- what each site had at first, did and has at the end, and what is left on the link from one site to another
pub record SiteRuns : Type 0 where
  pub start : ℕ → Config
  pub deeds : ℕ → List Deed
  pub end : ℕ → Config
  pub rest : ℕ → ℕ → List StampedItem

-- Each of n sites ran alone. On each link what is first in is first out: what is put is what is taken, and then what is left.
pub record AreSiteRuns (n : ℕ) (r : SiteRuns) : Type 0 where
  pub each : (s : ℕ) → IsSiteRun n s (r.start s) (r.deeds s) (r.end s)
  pub others : (s : ℕ) → n ≤ s → r.deeds s ≡ []
  pub links : (s t : ℕ) → put_for t (r.deeds s) ≡ taken_from s (r.deeds t) ++ r.rest s t

-- what the sites have at first, when nothing is under way
abbrev pub at_start : SiteRuns → Spread
at_start r = record { here = r.start; air = [] }

-- what they have at the end, and what is on the links between n sites then
abbrev pub at_end : ℕ → SiteRuns → Spread
at_end n r = spread n (record { here = r.end; link = λ s t. map (λ x. x.item) (r.rest s t) })
