use Rattle.std.proofs.Common.{◌≡◌, length}
use Rattle.picture_svg.proofs.saying.sayings_of.Given as goal

abbrev pub invariant-loop-step : goal.invariant-loop-step
invariant-loop-step l = length l.sayings ≡ l.step-index
