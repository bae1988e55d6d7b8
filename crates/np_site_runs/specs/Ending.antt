-- Where the merged history of sites leads, by what they hold at the end; and when the whole rests.
use Rattle.std.specs.Prelude.{◌≡◌, ◌≢◌, ◌<◌, ◌↔◌, ℕ, List, [], length, map, Some, IfSome}
use Rattle.std.specs.List.{AllByRecursion}
use Rattle.np_syntax.specs.declared.program.LowProgram.{LowProgram}
use Rattle.np_calculus.specs.Config.{Config}
use Rattle.np_calculus.specs.Idle.{Idle}
use Rattle.np_calculus.specs.Reductions.{run}
use Rattle.np_calculus.specs.Sight.{Contents}
use Rattle.np_calculus.specs.Starts.{start_low}
use Rattle.np_site_runs.specs.merged.Links.{Linked, spread}
use Rattle.np_site_runs.specs.merged.Steps.{IsSpread}
use Rattle.stamp_history.specs.Histories.{Recorded}
use Rattle.run_merge.specs.Laws.{AreHistories}
use Rattle.run_merge.specs.Merged.{items, merged, said}
use Rattle.np_site_runs.specs.merged.Resting.{Brings}
use Rattle.np_site_runs.specs.Holdings.{Holding, IsPart}
use Rattle.np_site_runs.specs.SiteRuns.{AreHeldRuns, ArePartsOf, HeldRuns}
use Rattle.np_site_runs.specs.Starting.{start_holding}

-- at the end the site has printed what its history has
pub record HasPrinted (end : Holding) (h : Recorded) : Type 0 where
  pub site : end.site ≡ h.site
  pub said : end.said ≡ h.said

-- the histories have just what the sites did and printed
pub record AreKept (hs : List Recorded) (r : HeldRuns) : Type 0 where
  pub histories : AreHistories hs
  pub events : AllByRecursion (λ h. h.events ≡ map (λ d. d.event) (r.deeds h.site)) hs
  pub others : (s : ℕ) → AllByRecursion (λ h. h.site ≢ s) hs → r.deeds s ≡ []
  pub printed : AllByRecursion (λ h. HasPrinted (r.end h.site) h) hs

-- what sites and links have at the end
abbrev pub ending : HeldRuns → (ℕ → Config) → Linked
ending r here = record { here = here; link = λ s t. map (λ x. x.item) (r.rest s t) }

-- the merged history is a run of the whole, to a configuration of which the sites hold the parts, with the rest on the links
pub record EndsIn (n : ℕ) (r : HeldRuns) (hs : List Recorded) (c : Config) : Type 0 where
  pub here : ℕ → Config
  pub parts : ArePartsOf r.end here
  pub whole : Config
  pub runs : run c (items (merged hs)) ≡ Some whole
  pub said : whole.said ≡ said hs
  pub spread : IsSpread n (spread n (ending r here)) whole

abbrev pub HeldRunsEnd : Type 0
HeldRunsEnd = (n : ℕ) (r : HeldRuns) (hs : List Recorded) (here : ℕ → Config) (c : Config) → AreHeldRuns n r → AreKept hs r
    → ArePartsOf r.start here
    → ((s : ℕ) → (r.start s).said ≡ []) → IsSpread n (record { here = here; air = [] }) c → EndsIn n r hs c

-- so it is from the low start
abbrev pub LowRunsEnd : Type 0
LowRunsEnd = (q : LowProgram) (r : HeldRuns) (hs : List Recorded) → q.at < length q.sites → AreHeldRuns (length q.sites) r → AreKept hs r
    → ((s : ℕ) → r.start s ≡ start_holding q s) → EndsIn (length q.sites) r hs (start_low q)

-- ---- rest

-- what the site holds can do nothing
abbrev pub IsStill : Holding → Type 0
IsStill h = (c : Config) → IsPart h c → Idle c

-- this can be told by one configuration that is what the site holds
abbrev pub StillByOne : Type 0
StillByOne = (h : Holding) (c : Config) → IsPart h c → Idle c → IsStill h

-- an agent under way, or a packet, and so not empty
abbrev pub IsLoad : Contents → Type 0
IsLoad x = (site : ℕ) × Brings site x

-- each item that a site puts on its way is one
abbrev pub PutLoads : HeldRuns → Type 0
PutLoads r = (s : ℕ) → AllByRecursion (λ d. IfSome d.put (λ x. IsLoad x.item.load)) (r.deeds s)

-- the whole rests just where what each site holds can do nothing, and nothing is left on the links
abbrev pub RestsInHoldings : Type 0
RestsInHoldings = (n : ℕ) (r : HeldRuns) (here : ℕ → Config) (whole : Config) → AreHeldRuns n r → PutLoads r → ArePartsOf r.end here
    → IsSpread n (spread n (ending r here)) whole
    → Idle whole ↔ (((s : ℕ) → s < n → IsStill (r.end s)) × ((s t : ℕ) → s < n → t < n → r.rest s t ≡ []))
