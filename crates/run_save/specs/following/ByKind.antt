-- What an event puts on its way and what it takes, by its kind (docs/LANGUAGE.md, "Reductions").
use Rattle.std.specs.Prelude.{◌≡◌, ◌<◌, ℕ, Bool, true, false, length, is_some, IsSome, IfSome, Some, List}
use Rattle.std.specs.List.{AllByRecursion}
use Rattle.np_syntax.specs.declared.event.Event.{Event}
use Rattle.np_syntax.specs.declared.event.Kind.{Kind}
use Rattle.np_syntax.specs.declared.event.Kind.TheVariants as kind
use Rattle.np_syntax.specs.declared.program.LowProgram.{LowProgram}
use Rattle.np_calculus.specs.declared.config.Place.TheVariants as place
use Rattle.np_calculus.specs.Sight.{Contents}
use Rattle.stamp_history.specs.Histories.{Recorded}
use Rattle.np_site_runs.specs.merged.Deeds.{Deed}
use Rattle.np_site_runs.specs.Accounts.{Accounts, AreSettled, AreTheirs}
use Rattle.np_site_runs.specs.Starting.{start_holding}
use Rattle.run_save.specs.following.TravelLaws.{PutsLead}

-- an event of this kind puts an item on its way
abbrev pub puts_out : Kind → Bool
puts_out kind.Depart = true
puts_out kind.Send = true
puts_out _ = false

-- and one of this kind takes one
abbrev pub takes_in : Kind → Bool
takes_in kind.Arrive = true
takes_in kind.Land = true
takes_in _ = false

-- what an event of this kind takes has the agent or the packet that the event names
abbrev pub Brings : Kind → Event → Contents → Type 0
Brings kind.Arrive e x = x.place e.actor ≡ Some (place.Way e.site)
Brings kind.Land e x = IsSome (x.packet e.actor)
Brings _ e x = Unit {0}

-- what the deed puts on its way and what it takes is by the kind of its event
pub record IsOfKind (d : Deed) : Type 0 where
  pub put : puts_out d.event.event.kind ≡ is_some d.put
  pub taken : takes_in d.event.event.kind ≡ is_some d.taken
  pub brings : IfSome d.taken (λ x. Brings d.event.event.kind d.event.event x.item.load)

-- so it is with each deed of sites that did by themselves what they did
abbrev pub DeedsAreOfKinds : Type 0
DeedsAreOfKinds = (q : LowProgram) (r : Accounts) (hs : List Recorded) → q.at < length q.sites
    → AreSettled (length q.sites) (start_holding q) r
    → AreTheirs (length q.sites) r hs → PutsLead (length q.sites) r → (s : ℕ) → s < length q.sites → AllByRecursion IsOfKind (r.deeds s)
