-- What the events of a run put on their way from site to site, and what they take (docs/LANGUAGE.md, "Reductions").
use Rattle.std.specs.Prelude.{◌≡◌, ℕ, Bool, List, [], ◌∷◌, ◌++◌, Option, None, Some, map, reverse, option_map}
use Rattle.std.specs.List.{filter, find}
use Rattle.std.specs.Option.{option_map_or}
use Rattle.std.specs.FinMap as table
use Rattle.np_syntax.specs.Options.{◌>>=◌}
use Rattle.np_syntax.specs.declared.event.Event.{Event}
use Rattle.np_syntax.specs.declared.event.Kind.{Kind}
use Rattle.np_syntax.specs.declared.event.Kind.TheVariants as kind
use Rattle.np_calculus.specs.Config.{Config}
use Rattle.np_calculus.specs.Reductions.{apply, way}
use Rattle.run_save.specs.declared.trips.Item.{Item}
use Rattle.run_save.specs.declared.trips.Item.TheVariants as item
use Rattle.run_save.specs.declared.trips.Link.{Link}
use Rattle.run_save.specs.declared.trips.Trip.{Trip}
use Rattle.run_save.specs.contracts.trips.ItemPartialEq.TheImpl as items
use Rattle.run_save.specs.contracts.trips.LinkPartialEq.TheImpl as links

-- the comparisons that `==` makes
abbrev pub same_item : Item → Item → Bool
same_item = items.eq-value.it

abbrev pub same_link : Link → Link → Bool
same_link = links.eq-value.it

-- ---- one event

-- A Depart, after which this is the configuration: the agent of its atom is under way to a site.
abbrev pub departure : Config → Event → Option Trip
departure after e = do
  a ← table.get after.atoms e.actor
  p ← table.get after.places a.agent
  to ← way p
  Some (record { item = item.Agent a.agent; link = record { from = e.site; to = to } })

-- A Send, after which this is the configuration: a packet with the mark of its atom is for a site.
abbrev pub sending : Config → Event → Option Trip
sending after e = do
  p ← table.get after.packets e.actor
  Some (record { item = item.Packet e.actor; link = record { from = e.site; to = p.to } })

-- ---- one event after another

-- what was put on its way, what was taken, and what was taken though no event had put it, each in the order of the events
pub record Travels : Type 0 where
  pub put : List Trip
  pub taken : List Trip
  pub stray : List Item

abbrev pub none_yet : Travels
none_yet = record { put = []; taken = []; stray = [] }

abbrev pub puts : Travels → Option Trip → Travels
puts t None = t
puts t (Some trip) = record t { put = t.put ++ trip ∷ [] }

-- the site of the event that put an item last, which is the item's sender
abbrev pub sender : List Trip → Item → Option ℕ
sender trips x = option_map (λ trip. trip.link.from) (find (λ trip. same_item trip.item x) (reverse trips))

-- an item is taken on the link from its sender's site
abbrev pub takes_from : Travels → Item → ℕ → Option ℕ → Travels
takes_from t x site None = record t { stray = t.stray ++ x ∷ [] }
takes_from t x site (Some from) = record t { taken = t.taken ++ record { item = x; link = record { from = from; to = site } } ∷ [] }

abbrev pub takes : Travels → Item → ℕ → Travels
takes t x site = takes_from t x site (sender t.put x)

-- what an event of each kind puts or takes, where this is the configuration after it
abbrev pub travels_on : Kind → Travels → Config → Event → Travels
travels_on kind.Depart t after e = puts t (departure after e)
travels_on kind.Send t after e = puts t (sending after e)
travels_on kind.Arrive t after e = takes t (item.Agent e.actor) e.site
travels_on kind.Land t after e = takes t (item.Packet e.actor) e.site
travels_on _ t after e = t

-- what the events of a run put and take, one after another from a configuration on
abbrev pub travels_along : Travels → Config → List Event → Travels
travels_along t c [] = t
travels_along t c (e ∷ es) = option_map_or (λ after. travels_along (travels_on e.kind t after e) after es) (apply c e) t

abbrev pub travels : Config → List Event → Travels
travels start events = travels_along none_yet start events

-- ---- first in, first out

-- the items of the trips on a link
abbrev pub on_link : Link → List Trip → List Item
on_link l trips = map (λ trip. trip.item) (filter (λ trip. same_link trip.link l) trips)

-- On each link what is put is what is taken, and then what is left; and nothing is taken that was not put. Where this holds after each
-- event, what an event takes is, of what was put and not yet taken on its link, the one that was put first.
pub record IsFirstInFirstOut (t : Travels) : Type 0 where
  pub links : (l : Link) → (rest : List Item) × (on_link l t.put ≡ on_link l t.taken ++ rest)
  pub sent : t.stray ≡ []
