-- How many names a site has made where the merged history leads (docs/HISTORIES.md, "History text").
use Rattle.std.specs.Prelude.{◌≡◌, ◌<◌, ℕ, List, length}
use Rattle.np_syntax.specs.declared.program.LowProgram.{LowProgram}
use Rattle.np_calculus.specs.Starts.{start_low}
use Rattle.stamp_history.specs.Histories.{Recorded}
use Rattle.run_merge.specs.Merged.{items, merged}
use Rattle.np_site_runs.specs.Accounts.{Accounts, SitesEnd}
use Rattle.run_save.specs.Ours.{AreNext, names_by}

-- where each site numbers its names, the number of a site's next name is that of the names that it made
abbrev pub NextIsCounted : Type 0
NextIsCounted = (q : LowProgram) (r : Accounts) (hs : List Recorded) (s : ℕ) → q.at < length q.sites
    → SitesEnd (length q.sites) r hs (start_low q) → s < length q.sites
    → (r.end s).site ≡ s → ((u : ℕ) → AreNext u 0 (names_by u (items (merged hs))))
    → (r.end s).next ≡ length (names_by s (items (merged hs)))
