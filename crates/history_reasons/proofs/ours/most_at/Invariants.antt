use Rattle.std.proofs.Common.{◌<◌, ◌≤◌, ℕ}
use Rattle.history_reasons.specs.Counts.{events_at}
use Rattle.history_reasons.proofs.ours.most_at.Given as goal

-- of the sites so far
abbrev pub invariant-loop-site : goal.invariant-loop-site
invariant-loop-site l = (site : ℕ) → site < l.site → events_at site l.events ≤ l.most
