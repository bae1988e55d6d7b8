-- The merged histories of sites are a run of the whole (docs/HISTORIES.md, "History text").
use Rattle.std.specs.Prelude.{◌≡◌, ◌≢◌, ◌<◌, ◌≤◌, ℕ, List, [], ◌∷◌, map, length, Some}
use Rattle.std.specs.List.{AllByRecursion}
use Rattle.np_calculus.specs.Config.{Config}
use Rattle.np_calculus.specs.Reductions.{run}
use Rattle.np_site_runs.specs.merged.Steps.{IsSpread, Spread}
use Rattle.stamp_history.specs.Histories.{Recorded, Rises}
use Rattle.run_merge.specs.Laws.{AreHistories}
use Rattle.run_merge.specs.Merged.{merged, items, said}
use Rattle.np_site_runs.specs.merged.Deeds.{AreSiteRuns, Deed, IsSiteRun, SiteRuns, StampedItem, TicksByOne, at_end, at_start, put_for}
use Rattle.np_site_runs.specs.merged.Deeds.{taken_from}

-- the histories have just what the sites did
pub record AreRecorded (hs : List Recorded) (r : SiteRuns) : Type 0 where
  pub histories : AreHistories hs
  pub events : AllByRecursion (λ h. h.events ≡ map (λ d. d.event) (r.deeds h.site)) hs
  pub others : (s : ℕ) → AllByRecursion (λ h. h.site ≢ s) hs → r.deeds s ≡ []

-- the merged history is a run of the whole, from what the sites have at first to what they and the links have at the end
abbrev pub MergedIsRun : Type 0
MergedIsRun = (n : ℕ) (r : SiteRuns) (hs : List Recorded) (c : Config) → AreSiteRuns n r → AreRecorded hs r → IsSpread n (at_start r) c
    → (d : Config) × (run c (items (merged hs)) ≡ Some d) × IsSpread n (at_end n r) d

-- ---- links

pub record IsFrom (s t : ℕ) (x : StampedItem) : Type 0 where
  pub sender : x.item.sender ≡ s
  pub receiver : x.item.receiver ≡ t

-- what a site takes was put on its way to it, and so was what is left on the links to it
pub record AreForIt (r : SiteRuns) (s t : ℕ) : Type 0 where
  pub taken : AllByRecursion (IsFrom s t) (taken_from s (r.deeds t))
  pub rest : AllByRecursion (λ x. x.item.receiver ≡ t) (r.rest s t)

abbrev pub LinksLead : Type 0
LinksLead = (n : ℕ) (r : SiteRuns) (s t : ℕ) → AreSiteRuns n r → AreForIt r s t

-- ---- stamps

-- no stamp is above this number
pub record AreAtMost (m : ℕ) (hs : List Recorded) (r : SiteRuns) : Type 0 where
  pub events : AllByRecursion (λ e. e.rank.stamp ≤ m) (merged hs)
  pub items : (s t : ℕ) → AllByRecursion (λ x. x.stamp ≤ m) (r.rest s t)

-- where no clock goes on by more than it has to, the stamps of the events, and of the items that are left, are at most the number of
-- all events
abbrev pub StampsAreFew : Type 0
StampsAreFew = (n : ℕ) (r : SiteRuns) (hs : List Recorded) → AreSiteRuns n r → ((s : ℕ) → TicksByOne 0 (r.deeds s)) → AreRecorded hs r
    → AreAtMost (length (merged hs)) hs r

-- the stamps of items rise
abbrev pub ItemsRise : List StampedItem → Type 0
ItemsRise [] = Unit {0}
ItemsRise (x ∷ xs) = AllByRecursion (λ later. x.stamp < later.stamp) xs × ItemsRise xs

-- so do the stamps of a site's events, and those of the items that it puts on their way to a site
pub record AreRising (ds : List Deed) : Type 0 where
  pub events : Rises (map (λ d. d.event) ds)
  pub items : (t : ℕ) → ItemsRise (put_for t ds)

abbrev pub StampsRise : Type 0
StampsRise = (n site : ℕ) (start end : Config) (ds : List Deed) → IsSiteRun n site start ds end → AreRising ds

-- ---- what is said

-- at first nothing is said, and at the end each site has said the values of its history
pub record IsSaid (hs : List Recorded) (r : SiteRuns) : Type 0 where
  pub silent : (s : ℕ) → (r.start s).said ≡ []
  pub values : AllByRecursion (λ h. (r.end h.site).said ≡ map (λ v. (h.site, v)) h.said) hs

-- what is said in the run of the whole is what the histories have as printed, in the order of the merged history
abbrev pub SaidInOrder : Type 0
SaidInOrder = (n : ℕ) (r : SiteRuns) (hs : List Recorded) (c d : Config) → AreSiteRuns n r → AreRecorded hs r → IsSaid hs r
    → IsSpread n (at_start r) c → run c (items (merged hs)) ≡ Some d → IsSpread n (at_end n r) d → d.said ≡ said hs

-- ---- the whole at the end

-- a configuration is told by its parts and by what is said in it
abbrev pub IsToldByParts : Type 0
IsToldByParts = (n : ℕ) (g : Spread) (c d : Config) → IsSpread n g c → IsSpread n g d → c.said ≡ d.said → c ≡ d

-- so the run ends in the configuration that the sites, the links and the histories show
abbrev pub EndIsShown : Type 0
EndIsShown = (n : ℕ) (r : SiteRuns) (hs : List Recorded) (c d : Config) → AreSiteRuns n r → AreRecorded hs r → IsSaid hs r
    → IsSpread n (at_start r) c → IsSpread n (at_end n r) d → d.said ≡ said hs → run c (items (merged hs)) ≡ Some d
