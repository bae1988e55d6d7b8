-- What n sites did by themselves is a run in which each site numbers its own names, and on each link what is first in is first out
-- (docs/HISTORIES.md, "History text").
use Rattle.std.specs.Prelude.{◌≡◌, ◌<◌, ℕ, List, ◌++◌, length, Some}
use Rattle.std.specs.List.{AllByRecursion}
use Rattle.np_syntax.specs.declared.program.LowProgram.{LowProgram}
use Rattle.np_calculus.specs.Starts.{start_low}
use Rattle.stamp_history.specs.Histories.{Recorded}
use Rattle.run_merge.specs.Merged.{items, merged}
use Rattle.np_site_runs.specs.merged.Deeds.{put_for}
use Rattle.np_site_runs.specs.Accounts.{Accounts, AreSettled, AreTheirs, came_on}
use Rattle.np_site_runs.specs.Acting.{LeadsTo}
use Rattle.np_site_runs.specs.Starting.{start_holding}
use Rattle.run_save.specs.declared.trips.Item.{Item}
use Rattle.run_save.specs.declared.trips.Link.{Link}
use Rattle.run_save.specs.Ours.{IsOurs}
use Rattle.run_save.specs.Travels.{Travels, on_link, sender, travels}
use Rattle.run_save.specs.following.Shown.{ShowEach}

-- what a site puts on its way to a site leads there
pub record PutsLead (n : ℕ) (r : Accounts) : Type 0 where
  pub each : (s t : ℕ) → s < n → t < n → AllByRecursion (LeadsTo t) (put_for t (r.deeds s))

-- the merged history is a run that is ours
abbrev pub SettledAreOurs : Type 0
SettledAreOurs = (q : LowProgram) (r : Accounts) (hs : List Recorded) → q.at < length q.sites
    → AreSettled (length q.sites) (start_holding q) r
    → AreTheirs (length q.sites) r hs → PutsLead (length q.sites) r → IsOurs q (items (merged hs))

-- the link from one site to another
abbrev pub link : ℕ → ℕ → Link
link s t = record { from = s; to = t }

-- On this link the run puts and takes just what the sites did, and what it puts and does not take is what is left there: the site that
-- the link is from put each of this last.
pub record IsLinkTold (t : Travels) (r : Accounts) (from to : ℕ) : Type 0 where
  pub put : ShowEach to (on_link (link from to) t.put) (put_for to (r.deeds from))
  pub taken : ShowEach to (on_link (link from to) t.taken) (came_on from (r.came to))
  pub left : List Item
  pub waits : on_link (link from to) t.put ≡ on_link (link from to) t.taken ++ left
  pub rest : ShowEach to left (r.rest from to)
  pub senders : AllByRecursion (λ i. sender t.put i ≡ Some from) left

-- so it is with each link between the sites
abbrev pub LinksAreTold : Type 0
LinksAreTold = (q : LowProgram) (r : Accounts) (hs : List Recorded) → q.at < length q.sites
    → AreSettled (length q.sites) (start_holding q) r
    → AreTheirs (length q.sites) r hs → PutsLead (length q.sites) r → (s t : ℕ) → s < length q.sites → t < length q.sites
    → IsLinkTold (travels (start_low q) (items (merged hs))) r s t
