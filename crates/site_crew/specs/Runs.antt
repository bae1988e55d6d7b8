-- What the histories of a crew are (docs/HISTORIES.md, "History text").
use Rattle.std.specs.Prelude.{◌≡◌, ◌<◌, ◌≤◌, ℕ, List, length, Some, slice_get, slice_index_or}
use Rattle.np_syntax.specs.declared.event.Event.{Event}
use Rattle.np_syntax.specs.declared.event.Kind.TheVariants as kind
use Rattle.np_syntax.specs.declared.limits.TheConstants.{MOST_SITES}
use Rattle.np_syntax.specs.declared.program.LowProgram.{LowProgram}
use Rattle.np_calculus.specs.Config.{Config}
use Rattle.np_calculus.specs.Idle.{Can}
use Rattle.np_calculus.specs.Reductions.{apply, run}
use Rattle.np_calculus.specs.Starts.{start_low}
use Rattle.np_calculus.specs.Well.{Well}
use Rattle.stamp_history.specs.Histories.{IsHistory, Recorded}
use Rattle.run_merge.specs.Merged.{items, merged, said}
use Rattle.run_merge.specs.Stamps.{AreStamped}
use Rattle.run_save.specs.Ours.{IsOurs}
use Rattle.np_code.specs.Programs.{ProgramTable}

-- the code of a program that a crew can run
pub record IsProgram (code : ProgramTable) : Type 0 where
  pub some : 1 ≤ length code.sites
  pub few : length code.sites ≤ MOST_SITES
  pub at : code.at < length code.sites

-- no post is made: that is what the high level alone does
abbrev pub NoPosts : Config → Type 0
NoPosts c = (e : Event) (d : Config) → apply c e ≡ Some d → e.kind ≡ kind.Post → ⊥

-- wherever a run from the low start leads, no value of a wrong type is met, and no post is made
pub record RunsSafely (low : LowProgram) : Type 0 where
  pub well : (events : List Event) (c : Config) → run (start_low low) events ≡ Some c → Well c
  pub posts : (events : List Event) (c : Config) → run (start_low low) events ≡ Some c → NoPosts c

-- the history of the site with this number, within the budget
pub record IsHistoryOf (s most : ℕ) (h : Recorded) : Type 0 where
  pub site : h.site ≡ s
  pub budget : h.budget ≡ most
  pub history : IsHistory h

-- one for each of n sites, in the order of their numbers
pub record AreHistoriesOf (n most : ℕ) (hs : List Recorded) : Type 0 where
  pub count : length hs ≡ n
  pub each : (s : ℕ) (d : Recorded) → s < n → IsHistoryOf s most (slice_index_or hs s d)

-- Each site has its history, within the budget, with its own events and with stamps by Lamport's rule. The merged histories are a run
-- from the low start to this end, in which the values are said that the histories have as printed, in their order; and it is one that
-- sites make by themselves.
pub record IsCrewRun (low : LowProgram) (most : ℕ) (hs : List Recorded) (end : Config) : Type 0 where
  pub sites : AreHistoriesOf (length low.sites) most hs
  pub reaches : run (start_low low) (items (merged hs)) ≡ Some end
  pub said : end.said ≡ said hs
  pub ours : IsOurs low (items (merged hs))
  pub stamped : AreStamped low most hs

-- the site has its history, with as many events as the budget
pub record IsSpent (most : ℕ) (hs : List Recorded) (site : ℕ) : Type 0 where
  pub history : Recorded
  pub its : slice_get hs site ≡ Some history
  pub spent : length history.events ≡ most

-- a site that can still act, and has made as many events as the budget
pub record SpentCan (most : ℕ) (hs : List Recorded) (end : Config) : Type 0 where
  pub site : ℕ
  pub can : Can end site
  pub spent : IsSpent most hs site

-- each site that can still act has made as many events as the budget
abbrev pub OnlySpentCan : ℕ → List Recorded → Config → Type 0
OnlySpentCan most hs end = (site : ℕ) → Can end site → IsSpent most hs site
