-- What one event puts on its way and another takes (docs/HISTORIES.md, "History text").
use Rattle.std.specs.Prelude.{◌≡◌, ◌<◌, ◌⊎◌, ℕ, List, true, Some, IsSome}
use Rattle.np_syntax.specs.declared.value.Name.{Name}
use Rattle.np_calculus.specs.Config.{Config}
use Rattle.np_calculus.specs.Parts.{IsMark}
use Rattle.np_calculus.specs.Sight.{Contents}
use Rattle.np_site_runs.specs.merged.Steps.{IsSpread}
use Rattle.stamp_history.specs.Histories.{Recorded}
use Rattle.run_merge.specs.Merged.{comes_before, ranked}
use Rattle.np_site_runs.specs.merged.Deeds.{AreSiteRuns, Deed, SiteRuns, StampedItem, at_start}
use Rattle.np_site_runs.specs.merged.Elements.{Occurs}
use Rattle.np_site_runs.specs.merged.StampedLaws.{AreRecorded}

-- an agent is in both, or a mark
abbrev pub Meets : Contents → Contents → Type 0
Meets x y = ((q : Name) × IsSome (x.place q) × IsSome (y.place q)) ⊎ ((q : Name) × IsMark x q × IsMark y q)

-- the one puts an agent or a mark on its way, and the other takes it
pub record PassesOn (d e : Deed) : Type 0 where
  pub put : StampedItem
  pub puts : d.put ≡ Some put
  pub taken : StampedItem
  pub takes : e.taken ≡ Some taken
  pub meets : Meets put.item.load taken.item.load

-- of two events of which the later in the merged history takes what the earlier puts on its way, the later has the greater stamp
abbrev pub TakenLater : Type 0
TakenLater = (n : ℕ) (r : SiteRuns) (hs : List Recorded) (c : Config) (s t : ℕ) (d e : Deed) → AreSiteRuns n r → AreRecorded hs r
    → IsSpread n (at_start r) c
    → Occurs (λ x. x ≡ d) (r.deeds s) → Occurs (λ x. x ≡ e) (r.deeds t) → comes_before (ranked s d.event) (ranked t e.event) ≡ true
    → PassesOn d e
    → d.event.stamp < e.event.stamp
