-- What the stamps of histories keep to (docs/HISTORIES.md, "History text").
use Rattle.std.specs.Prelude.{◌≡◌, ◌<◌, ◌≤◌, ◌⊎◌, ℕ, List, [], ◌∷◌, length, Some, slice_index_or}
use Rattle.std.specs.List.{AllByRecursion}
use Rattle.std.specs.FinMap as table
use Rattle.np_syntax.specs.declared.value.Name.{Name}
use Rattle.np_syntax.specs.declared.event.Event.{Event}
use Rattle.np_syntax.specs.declared.event.Kind.TheVariants as kind
use Rattle.np_syntax.specs.declared.program.LowProgram.{LowProgram}
use Rattle.np_calculus.specs.declared.config.Atom.{Atom}
use Rattle.np_calculus.specs.Config.{Config}
use Rattle.np_calculus.specs.Reductions.{apply}
use Rattle.np_calculus.specs.Starts.{start_low}
use Rattle.stamp_history.specs.Histories.{Recorded, Rises}
use Rattle.run_merge.specs.declared.rank.Ranked.{Ranked}
use Rattle.run_merge.specs.Merged.{merged}

-- the history of the site with this number: its own events, not more than the budget, with rising stamps
pub record IsOfSite (s budget : ℕ) (h : Recorded) : Type 0 where
  pub site : h.site ≡ s
  pub own : AllByRecursion (λ e. e.event.site ≡ s) h.events
  pub rises : Rises h.events
  pub within : length h.events ≤ budget

-- ---- what is put on its way is taken later

-- the event sends this agent on its way
pub record Departs (c : Config) (e : Event) (agent : Name) : Type 0 where
  pub leaves : e.kind ≡ kind.Depart
  pub atom : Atom
  pub acts : table.get c.atoms e.actor ≡ Some atom
  pub of : atom.agent ≡ agent

-- an agent that departs arrives
pub record Arrives (c : Config) (e later : Event) : Type 0 where
  pub comes : later.kind ≡ kind.Arrive
  pub departs : Departs c e later.actor

-- what is sent under a mark lands
pub record Lands (e later : Event) : Type 0 where
  pub sends : e.kind ≡ kind.Send
  pub comes : later.kind ≡ kind.Land
  pub mark : e.actor ≡ later.actor

-- what the event puts on its way, if it does, the later one takes
abbrev pub Passes : Config → Event → Event → Type 0
Passes c e later = Arrives c e later ⊎ Lands e later

-- Along a run: whatever takes what an event before it put on its way, be it the latest or not, has a greater stamp.
abbrev pub TakesLater : Config → List (Ranked Event) → Type 0
TakesLater c [] = Unit {0}
TakesLater c (r ∷ rs) = AllByRecursion (λ later. Passes c r.item later.item → r.rank.stamp < later.rank.stamp) rs
    × ((next : Config) → apply c r.item ≡ Some next → TakesLater next rs)

-- ---- all sites

-- No two histories have one site, since each is that of the site with the number of its place, and has events of this site alone,
-- within the budget. In the merged history, from the low start on, each arrival of an agent is stamped above each Depart of that agent
-- before it, and so above the latest; and each landing of a mark above each Send of that mark before it. No stamp is above the number
-- of all events.
pub record AreStamped (low : LowProgram) (budget : ℕ) (hs : List Recorded) : Type 0 where
  pub count : length hs ≡ length low.sites
  pub each : (s : ℕ) (d : Recorded) → s < length hs → IsOfSite s budget (slice_index_or hs s d)
  pub later : TakesLater (start_low low) (merged hs)
  pub few : AllByRecursion (λ r. r.rank.stamp ≤ length (merged hs)) (merged hs)
