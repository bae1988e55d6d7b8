use Rattle.std.proofs.Common.{◌≡◌, ◌≤◌, ◌*◌}
use Rattle.site_crew.proofs.Counts.{WholeBelow, counted}
use Rattle.site_crew.proofs.counting.events_of.Given as goal

abbrev pub invariant-loop-i : goal.invariant-loop-i
invariant-loop-i g l = record { total : l.total ≡ counted l.seats l.i; low : l.total ≤ 4294967295 * l.i; whole : WholeBelow l.seats l.i }
