-- The stamps of what n sites did by themselves (docs/HISTORIES.md, "History text").
use Rattle.std.specs.Prelude.{◌<◌, List, length}
use Rattle.np_syntax.specs.declared.program.LowProgram.{LowProgram}
use Rattle.np_calculus.specs.Starts.{start_low}
use Rattle.stamp_history.specs.Histories.{Recorded}
use Rattle.run_merge.specs.Merged.{merged}
use Rattle.run_merge.specs.Stamps.{TakesLater}
use Rattle.np_site_runs.specs.Accounts.{Accounts, AreSettled, AreTheirs}
use Rattle.np_site_runs.specs.Starting.{start_holding}

-- in the merged history, what takes what an event before it put on its way has a greater stamp
abbrev pub SettledTakeLater : Type 0
SettledTakeLater = (q : LowProgram) (r : Accounts) (hs : List Recorded) → q.at < length q.sites
    → AreSettled (length q.sites) (start_holding q) r
    → AreTheirs (length q.sites) r hs → TakesLater (start_low q) (merged hs)
