use Rattle.std.proofs.Common.{◌≡◌, replicate}
use Rattle.shiviz_log.proofs.clocks.zeros.Given as goal

abbrev pub invariant-loop-site : goal.invariant-loop-site
invariant-loop-site l = l.clock ≡ replicate l._site 0
