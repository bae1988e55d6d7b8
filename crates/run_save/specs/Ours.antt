-- Which runs the sites of a program make by themselves (docs/HISTORIES.md, "History text").
use Rattle.std.specs.Prelude.{◌≡◌, ◌<◌, ◌≤◌, ◌+◌, ◌==◌, ◌↔◌, ℕ, List, [], ◌∷◌, ◌++◌, length, take, Some, if◌then◌else◌}
use Rattle.std.specs.List.{flat_map}
pub use Rattle.np_syntax.specs.Events.{made_names as names_of}
use Rattle.np_syntax.specs.declared.value.Name.{Name}
use Rattle.np_syntax.specs.declared.event.Event.{Event}
use Rattle.np_syntax.specs.declared.event.Kind.{Kind}
use Rattle.np_syntax.specs.declared.event.Kind.TheVariants as kind
use Rattle.np_syntax.specs.declared.program.LowProgram.{LowProgram}
use Rattle.np_calculus.specs.Config.{Config}
use Rattle.np_calculus.specs.Reductions.{apply, run}
use Rattle.np_calculus.specs.Starts.{start_low}
use Rattle.run_save.specs.declared.trips.Item.{Item}
use Rattle.run_save.specs.declared.trips.Item.TheVariants as item
use Rattle.run_save.specs.declared.trips.Link.{Link}
use Rattle.run_save.specs.Travels.{IsFirstInFirstOut, Travels, on_link, sender, travels}

-- the names that a site makes, in the order of the events
abbrev pub names_by : ℕ → List Event → List Name
names_by s events = flat_map (λ e. if e.site == s then names_of e.made else []) events

-- the names are the site's own from a number on: s.n, s.(n + 1), and so on
abbrev pub AreNext : ℕ → ℕ → List Name → Type 0
AreNext s n [] = Unit {0}
AreNext s n (x ∷ xs) = (x ≡ record { site = s; n = n }) × AreNext s (n + 1) xs

-- Each site numbers the names that it makes, from 0 on. After each event, what was taken on a link is what was put first there.
pub record IsOursFrom (start : Config) (events : List Event) : Type 0 where
  pub names : (s : ℕ) → AreNext s 0 (names_by s events)
  pub order : (k : ℕ) → IsFirstInFirstOut (travels start (take k events))

-- the same of a run from the low start of a program
abbrev pub IsOurs : LowProgram → List Event → Type 0
IsOurs q events = IsOursFrom (start_low q) events

-- the first events are ours, up to the one at this index, and with that one they are not
pub record StopsBeingOurs (start : Config) (events : List Event) (index : ℕ) : Type 0 where
  pub within : index < length events
  pub before : (k : ℕ) → k ≤ index → IsOursFrom start (take k events)
  pub not : IsOursFrom start (take (index + 1) events) → ⊥

-- the first events of what is ours are ours
abbrev pub PrefixIsOurs : Type 0
PrefixIsOurs = (q : LowProgram) (events : List Event) (k : ℕ) → IsOurs q events → IsOurs q (take k events)

-- ---- one event more

-- an event put the item, and of those that were put and not yet taken on the way from its sender's site to this one it was put first
pub record IsPutFirst (t : Travels) (x : Item) (site : ℕ) : Type 0 where
  pub from : ℕ
  pub sent : sender t.put x ≡ Some from
  pub later : List Item
  pub first : let l : Link = record { from = from; to = site } in on_link l t.put ≡ on_link l t.taken ++ x ∷ later

-- what an event of each kind takes was put first
abbrev pub TakesPutFirst : Kind → Travels → Event → Type 0
TakesPutFirst kind.Arrive t e = IsPutFirst t (item.Agent e.actor) e.site
TakesPutFirst kind.Land t e = IsPutFirst t (item.Packet e.actor) e.site
TakesPutFirst _ t e = Unit {0}

-- the event's names are the next of its site, and what it takes was put first
pub record GoesOn (start : Config) (events : List Event) (e : Event) : Type 0 where
  pub names : AreNext e.site (length (names_by e.site events)) (names_of e.made)
  pub takes : TakesPutFirst e.kind (travels start events) e

-- behind a run that is ours, an event leaves it ours exactly where this holds
abbrev pub OursGoesOn : Type 0
OursGoesOn = (start before after : Config) (events : List Event) (e : Event) → run start events ≡ Some before → apply before e ≡ Some after
    → IsOursFrom start events
    → IsOursFrom start (events ++ e ∷ []) ↔ GoesOn start events e
