-- A run of a low program on its sites (docs/HISTORIES.md, "History text").
use Rattle.std.specs.Prelude.{◌≡◌, ◌↔◌, ℕ, List, length, Some}
use Rattle.np_syntax.specs.declared.event.End.{End}
use Rattle.np_syntax.specs.declared.event.End.TheVariants.{Rest, Spent}
use Rattle.np_syntax.specs.declared.event.Event.{Event}
use Rattle.np_syntax.specs.declared.program.LowProgram.{LowProgram}
use Rattle.np_calculus.specs.Config.{Config}
use Rattle.np_calculus.specs.Idle.{Idle}
use Rattle.np_calculus.specs.Reductions.{run}
use Rattle.np_calculus.specs.Starts.{start_low}
use Rattle.stamp_history.specs.Histories.{Recorded}
use Rattle.run_merge.specs.Merged.{items, merged, said}
use Rattle.run_merge.specs.Stamps.{AreStamped}
use Rattle.run_save.specs.Ours.{IsOurs}
use Rattle.site_crew.specs.Runs.{AreHistoriesOf, OnlySpentCan, SpentCan}

-- all events, by stamp and then by site
abbrev pub events_of : List Recorded → List Event
events_of histories = items (merged histories)

-- The histories of the sites, each within the budget, are merged a run of the low program from its start, in which that was printed,
-- and which sites make by themselves: each numbers its own names, and on each link what is first in is first out. Each history has
-- events of its own site alone, and the stamps are by Lamport's rule. It is at rest exactly where no site can act any more. Else only a
-- site that has used its whole budget can, and there is one that has and can.
pub record IsSitesRun (low : LowProgram) (budget : ℕ) (histories : List Recorded) (end : End) : Type 0 where
  pub sites : AreHistoriesOf (length low.sites) budget histories
  pub last : Config
  pub reaches : run (start_low low) (events_of histories) ≡ Some last
  pub said : last.said ≡ said histories
  pub ours : IsOurs low (events_of histories)
  pub stamped : AreStamped low budget histories
  pub rests : (end ≡ Rest) ↔ Idle last
  pub spent : end ≡ Spent → OnlySpentCan budget histories last
  pub still : end ≡ Spent → SpentCan budget histories last
