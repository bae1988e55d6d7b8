-- What the faults of resolved programs rest on (docs/LANGUAGE.md, "Scope" and "Types").
use Rattle.std.specs.Prelude.{◌≡◌, ◌<◌, ℕ, true, length}
use Rattle.std.specs.FinMap as table
use Rattle.np_syntax.specs.declared.types.Ty.{Ty}
use Rattle.np_syntax.specs.declared.program.Program.{Program}
use Rattle.np_types.specs.declared.fault.Rule.TheVariants as rule
use Rattle.np_types.specs.Widths.{narrow}
use Rattle.np_types.specs.Checks.{ensure}
use Rattle.np_types.specs.Worlds.{World, bare}
use Rattle.np_scope.specs.Written.{IsChannelType}
use Rattle.np_scope.specs.Sound.{IsSound}
use Rattle.np_check.specs.Faults.{check, is_for_channels}

-- the numbers below n are sites
abbrev pub HasSites : ℕ → World → Type 0
HasSites n w = (s : ℕ) → s < n → w.site s ≡ true

-- they are the same in each world that has the program's sites, whatever its channels
abbrev pub NeedSitesAlone : Type 0
NeedSitesAlone = (program : Program) (w : World) → IsSound program → HasSites (length program.sites) w
    → check w program.main table.empty ≡ check bare program.main table.empty

-- at a `new`, the nodes of its type are all that is asked for
abbrev pub CountNodesAlone : Type 0
CountNodesAlone = (t : Ty) (at : ℕ) → IsChannelType t → is_for_channels t at ≡ ensure (narrow t) at rule.Wide
