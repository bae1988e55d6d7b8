use Rattle.std.proofs.Common.{◌≡◌, replicate}
use Rattle.shiviz_log.proofs.clocks.first_clocks.Given as goal

abbrev pub invariant-loop-site : goal.invariant-loop-site
invariant-loop-site l = l.clocks ≡ replicate l._site (replicate l.count 0)
