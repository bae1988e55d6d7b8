-- Which events are possible where the merged history leads (docs/LANGUAGE.md, "Reductions").
use Rattle.std.specs.Prelude.{◌≡◌, ◌<◌, ℕ, List, true, Some}
use Rattle.np_syntax.specs.declared.event.Event.{Event}
use Rattle.np_calculus.specs.Config.{Config}
use Rattle.np_calculus.specs.NotEnabled.{by_atom}
use Rattle.np_calculus.specs.Reductions.{apply}
use Rattle.stamp_history.specs.Histories.{Recorded}
use Rattle.np_site_runs.specs.Making.{AreNext}
use Rattle.np_site_runs.specs.Accounts.{Accounts, SitesEnd}

-- an event of an atom is one of a site
abbrev pub EventIsOfSite : Type 0
EventIsOfSite = (n : ℕ) (r : Accounts) (hs : List Recorded) (c after : Config) (e : SitesEnd n r hs c) (x : Event) → by_atom x.kind ≡ true
    → apply e.whole x ≡ Some after → x.site < n

-- and it is enabled in what this site holds, if the names that it makes are the next ones there
abbrev pub EnabledInPart : Type 0
EnabledInPart = (n : ℕ) (r : Accounts) (hs : List Recorded) (c after : Config) (e : SitesEnd n r hs c) (x : Event) → by_atom x.kind ≡ true
    → apply e.whole x ≡ Some after
    → AreNext (r.end x.site) x.made → (next : Config) × (apply (e.here x.site) x ≡ Some next)
