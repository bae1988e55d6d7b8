use Rattle.std.proofs.Common.{◌-◌, ◌<◌, ◌≤◌}
use Rattle.source_words.proofs.lines.run_end.Given as goal

abbrev pub invariant-loop-reached : goal.invariant-loop-reached
invariant-loop-reached l = (l.at < l.reached) × (l.reached ≤ l.end)

abbrev pub decreases-loop-reached : goal.decreases-loop-reached
decreases-loop-reached l = l.end - l.reached
