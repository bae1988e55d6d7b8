use Rattle.std.proofs.Common.{◌≡◌, ◌++◌, drop}
use Rattle.shiviz_log.specs.Clocks.{known_of}
use Rattle.shiviz_log.specs.Logs.{entries, log}
use Rattle.shiviz_log.proofs.log.log_text.Given as goal

-- the entries so far, and those still to come
abbrev pub invariant-loop-step : goal.invariant-loop-step
invariant-loop-step l = l.text ++ entries l.sites (known_of l.clocks) (drop l.step-index l.steps) ≡ log l.sites l.steps
