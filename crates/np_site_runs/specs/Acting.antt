-- Which sites can act where the merged history leads (docs/LANGUAGE.md, "Reductions").
use Rattle.std.specs.Prelude.{◌≡◌, ◌<◌, ℕ, List, []}
use Rattle.std.specs.List.{AllByRecursion}
use Rattle.np_calculus.specs.Config.{Config}
use Rattle.np_calculus.specs.Idle.{Can}
use Rattle.stamp_history.specs.Histories.{Recorded}
use Rattle.np_site_runs.specs.merged.Deeds.{StampedItem}
use Rattle.np_site_runs.specs.merged.Resting.{Brings}
use Rattle.np_site_runs.specs.Accounts.{Accounts, SitesEnd}
use Rattle.np_site_runs.specs.Ending.{IsStill}

-- what the item brings, it brings to this site
abbrev pub LeadsTo : ℕ → StampedItem → Type 0
LeadsTo t x = (site : ℕ) → Brings site x.item.load → site ≡ t

-- the sites hold what they hold as sites of their numbers, and what is left on a link is for the site to which it leads
pub record AreDirected (n : ℕ) (r : Accounts) : Type 0 where
  pub at : (u : ℕ) → u < n → (r.end u).site ≡ u
  pub left : (u t : ℕ) → u < n → t < n → AllByRecursion (LeadsTo t) (r.rest u t)

-- a site cannot act where what it holds can do nothing, and nothing is left on the links to it
abbrev pub SiteIsStill : Type 0
SiteIsStill = (n : ℕ) (r : Accounts) (hs : List Recorded) (c : Config) (e : SitesEnd n r hs c) (s : ℕ) → s < n → AreDirected n r
    → IsStill (r.end s)
    → ((u : ℕ) → u < n → r.rest u s ≡ []) → ¬ Can e.whole s

-- and what is no site cannot act
abbrev pub OnlySitesCan : Type 0
OnlySitesCan = (n : ℕ) (r : Accounts) (hs : List Recorded) (c : Config) (e : SitesEnd n r hs c) (s : ℕ) → AreDirected n r → Can e.whole s
    → s < n
