-- What each of many sites did alone, told by what it holds (docs/HISTORIES.md, "History text").
use Rattle.std.specs.Prelude.{◌≡◌, ◌≤◌, ℕ, List, [], ◌∷◌, ◌++◌}
use Rattle.std.specs.List.{AllByRecursion}
use Rattle.np_calculus.specs.Config.{Config}
use Rattle.np_site_runs.specs.merged.Steps.{IsSpread}
use Rattle.np_site_runs.specs.merged.Deeds.{AreSiteRuns, Deed, HasStamps, IsDeedOf, SiteRuns, StampedItem, Ticks, clock_after, put_for}
use Rattle.np_site_runs.specs.merged.Deeds.{taken_from}
use Rattle.np_site_runs.specs.Holdings.{Does, DoesAll, Holding, IsPart}

-- what a site, one of n, did alone, from one holding on to another and from a clock that is 0
pub record IsHeldRun (n site : ℕ) (start : Holding) (ds : List Deed) (end : Holding) : Type 0 where
  pub at : start.site ≡ site
  pub own : AllByRecursion (IsDeedOf n site) ds
  pub does : DoesAll start ds end
  pub ticks : Ticks 0 ds

-- what each site held at first, did and holds at the end, and what is left on the link from one site to another
pub record HeldRuns : Type 0 where
  pub start : ℕ → Holding
  pub deeds : ℕ → List Deed
  pub end : ℕ → Holding
  pub rest : ℕ → ℕ → List StampedItem

-- Each of n sites ran alone. On each link what is put is what is taken, and then what is left.
pub record AreHeldRuns (n : ℕ) (r : HeldRuns) : Type 0 where
  pub each : (s : ℕ) → IsHeldRun n s (r.start s) (r.deeds s) (r.end s)
  pub others : (s : ℕ) → n ≤ s → r.deeds s ≡ []
  pub links : (s t : ℕ) → put_for t (r.deeds s) ≡ taken_from s (r.deeds t) ++ r.rest s t

-- the same told by configurations
abbrev pub by_configs : HeldRuns → (ℕ → Config) → (ℕ → Config) → SiteRuns
by_configs r start end = record { start = start; deeds = r.deeds; end = end; rest = r.rest }

-- each configuration is what the site with its number holds
abbrev pub ArePartsOf : (ℕ → Holding) → (ℕ → Config) → Type 0
ArePartsOf holdings here = (s : ℕ) → IsPart (holdings s) (here s)

-- where the sites hold the parts of one configuration at first, and nothing is under way, what they did by their holdings are steps of
-- configurations
abbrev pub HeldRunsAreRuns : Type 0
HeldRunsAreRuns = (n : ℕ) (r : HeldRuns) (here : ℕ → Config) (c : Config) → AreHeldRuns n r → ArePartsOf r.start here
    → IsSpread n (record { here = here; air = [] }) c → (end : ℕ → Config) × ArePartsOf r.end end × AreSiteRuns n (by_configs r here end)

-- ---- one event more

abbrev pub HeldRunStarts : Type 0
HeldRunStarts = (n site : ℕ) (start : Holding) → start.site ≡ site → IsHeldRun n site start [] start

-- an event of the site after these
pub record IsNextDeed (n site : ℕ) (ds : List Deed) (old : Holding) (d : Deed) (new : Holding) : Type 0 where
  pub own : IsDeedOf n site d
  pub does : Does old d new
  pub stamps : HasStamps (clock_after 0 ds) d

abbrev pub HeldRunGrows : Type 0
HeldRunGrows = (n site : ℕ) (start old new : Holding) (ds : List Deed) (d : Deed) → IsHeldRun n site start ds old
    → IsNextDeed n site ds old d new
    → IsHeldRun n site start (ds ++ d ∷ []) new
