use Rattle.std.proofs.Common.{◌<◌, ◌≤◌, ℕ}
use Rattle.run_save.specs.following.Following.{events_at}
use Rattle.site_crew.proofs.past.first_past.Given as goal

abbrev pub invariant-loop-site : goal.invariant-loop-site
invariant-loop-site l = (u : ℕ) → u < l.site → events_at u l.events ≤ l.budget
