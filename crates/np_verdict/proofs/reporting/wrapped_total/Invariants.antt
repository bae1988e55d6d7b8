use Rattle.std.proofs.Common.{◌≡◌, take}
use Rattle.np_verdict.specs.Report.{wrapped_total}
use Rattle.np_verdict.proofs.reporting.wrapped_total.Given as goal

-- the sum of the numbers so far
abbrev pub invariant-loop-value : goal.invariant-loop-value
invariant-loop-value l = l.sum ≡ wrapped_total (take l.value-index l.said)
