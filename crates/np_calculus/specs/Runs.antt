-- Which starts can run (docs/LANGUAGE.md, "Reductions").
use Rattle.std.specs.Prelude.{◌≡◌, ◌≤◌, ◌<◌, ℕ, List, Some}
use Rattle.np_syntax.specs.declared.event.Event.{Event}
use Rattle.np_syntax.specs.declared.limits.TheConstants.{MOST_SITES}
use Rattle.np_calculus.specs.Config.{Config}
use Rattle.np_calculus.specs.Parts.{IsLodged}
use Rattle.np_calculus.specs.Reductions.{run}
use Rattle.np_calculus.specs.Sight.{inside}
use Rattle.np_calculus.specs.Well.{WellAlong}

-- A start that can run, where main stands at a site: it is one of its sites, of which there are not too many, and along each run
-- each atom's agent has a place, and no value of a wrong type is met.
pub record RunsWell (start : Config) (at : ℕ) : Type 0 where
  pub sites : start.sites ≤ MOST_SITES
  pub site : at < start.sites
  pub lodged : (events : List Event) (d : Config) → run start events ≡ Some d → IsLodged (inside d)
  pub well : (events : List Event) (d : Config) → run start events ≡ Some d → WellAlong start events
