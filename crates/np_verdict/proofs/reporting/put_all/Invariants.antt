use Rattle.std.proofs.Common.{◌≡◌, false, ◌++◌, take}
use Rattle.std.specs.List.{flat_map}
use Rattle.np_verdict.specs.Report.{said_line}
use Rattle.np_verdict.proofs.reporting.put_all.Given as goal

-- the lines of the values so far
abbrev pub invariant-loop-site : goal.invariant-loop-site
invariant-loop-site l = l.text.failed ≡ false → (l.fn.text.failed ≡ false) × (l.text.text ≡ l.fn.text.text ++ flat_map (said_line l.sites) (take l.site-index l.said))
