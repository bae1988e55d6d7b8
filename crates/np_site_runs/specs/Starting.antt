-- What each site holds at the low start (docs/TRANSLATION.md, "Starts").
use Rattle.std.specs.Prelude.{◌<◌, ℕ, Bool, cond, nat_eq, [], length}
use Rattle.std.specs.FinMap as table
use Rattle.np_syntax.specs.declared.value.Name.{Name}
use Rattle.np_syntax.specs.declared.process.Proc.{Proc}
use Rattle.np_syntax.specs.declared.program.LowProgram.{LowProgram}
use Rattle.np_tables.specs.Names.{NameMap}
use Rattle.np_calculus.specs.declared.config.Atom.{Atom}
use Rattle.np_calculus.specs.Config.{Config}
use Rattle.np_calculus.specs.Starts.{daemon_agent, daemon_mark, first_atom, main_agent, main_mark, own_numbers, start_low}
use Rattle.np_site_runs.specs.merged.Steps.{IsSpread}
use Rattle.np_site_runs.specs.Holdings.{Holding}
use Rattle.np_site_runs.specs.SiteRuns.{ArePartsOf}

-- a map with a value under a name where the test holds
abbrev pub with_if : {X : Type 0} → Bool → NameMap X → Name → X → NameMap X
with_if t m k v = cond t (table.insert m k v) m

-- one atom under its mark
abbrev pub alone : Name → Name → Proc → NameMap Atom
alone agent mark p = table.insert table.empty mark (first_atom agent p)

-- main at its site and the daemon at the first one, each with its first atom
abbrev pub start_agents : LowProgram → ℕ → NameMap (NameMap Atom)
start_agents q s =
    let n : ℕ = length q.sites in
    let main = with_if (nat_eq s q.at) table.empty (main_agent n) (alone (main_agent n) (main_mark n) q.main) in
    with_if (nat_eq s 0) main (daemon_agent n) (alone (daemon_agent n) (daemon_mark n) q.daemon)

-- No site has made a name. Those that the program has from the start have the number of its sites in the place of a site.
abbrev pub start_holding : LowProgram → ℕ → Holding
start_holding q s = record {
  site = s;
  sites = length q.sites;
  agents = start_agents q s;
  next = cond (nat_eq s (length q.sites)) (length own_numbers) 0;
  said = [];
}

-- at the low start the sites hold its parts
abbrev pub LowStartIsHeld : Type 0
LowStartIsHeld = (q : LowProgram) → q.at < length q.sites
    → (here : ℕ → Config) × ArePartsOf (start_holding q) here × IsSpread (length q.sites) (record { here = here; air = [] }) (start_low q)
