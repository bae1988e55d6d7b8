-- A configuration in which nothing is under way, as what its sites have (docs/TRANSLATION.md, "Starts").
use Rattle.std.specs.Prelude.{◌≡◌, ◌<◌, ℕ, [], length, cond, None, Some}
use Rattle.np_syntax.specs.declared.value.Name.{Name}
use Rattle.np_syntax.specs.declared.program.LowProgram.{LowProgram}
use Rattle.np_syntax.specs.Options.{◌>>=◌, ◌>>◌, need}
use Rattle.np_calculus.specs.declared.config.Place.{Place}
use Rattle.np_calculus.specs.declared.config.Place.TheVariants as place
use Rattle.np_calculus.specs.Config.{Config}
use Rattle.np_calculus.specs.Parts.{AreBorn, IsLodged}
use Rattle.np_calculus.specs.Sight.{Contents, at_site, inside}
use Rattle.np_calculus.specs.Starts.{start_low}
use Rattle.np_site_runs.specs.merged.Steps.{IsSpread, SameRecords}

-- the agents that are at a site, with their atoms
abbrev pub part_at : ℕ → Contents → Contents
part_at site x = record {
  place = λ q. cond (at_site (x.place q) site) (x.place q) None;
  atom = λ m. x.atom m >>= λ a. need (at_site (x.place a.agent) site) >> Some a;
  packet = λ m. None;
}

-- each agent is at one of n sites, and nothing is said
pub record IsSettled (n : ℕ) (c : Config) : Type 0 where
  pub agents : (q : Name) (p : Place) → (inside c).place q ≡ Some p → (u : ℕ) × (u < n) × (p ≡ place.At u)
  pub packets : (m : Name) → (inside c).packet m ≡ None
  pub lodged : IsLodged (inside c)
  pub born : AreBorn c
  pub silent : c.said ≡ []

-- where each of the sites has the agents that are at it, with their atoms, the whole is what the sites have
abbrev pub SpreadBySites : Type 0
SpreadBySites = (n : ℕ) (here : ℕ → Config) (c : Config) → IsSettled n c → ((s : ℕ) → inside (here s) ≡ part_at s (inside c))
    → ((s : ℕ) → SameRecords (here s) c)
    → IsSpread n (record { here = here; air = [] }) c

-- so it is at the low start, where main's site is one of the program
abbrev pub LowStartIsSettled : Type 0
LowStartIsSettled = (q : LowProgram) → q.at < length q.sites → IsSettled (length q.sites) (start_low q)
