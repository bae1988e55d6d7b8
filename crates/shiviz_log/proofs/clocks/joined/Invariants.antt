use Rattle.std.proofs.Common.{◌≡◌, ◌++◌, drop}
use Rattle.shiviz_log.specs.Clocks.{joined, joined_from}
use Rattle.shiviz_log.proofs.clocks.joined.Given as goal

-- the sites so far, and those still to come
abbrev pub invariant-loop-site : goal.invariant-loop-site
invariant-loop-site l = l.made ++ joined_from l.other l.site (drop l.site l.clock) ≡ joined l.clock l.other
