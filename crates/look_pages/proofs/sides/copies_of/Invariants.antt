use Rattle.std.proofs.Common.{◌≡◌, take}
use Rattle.look_pages.proofs.sides.copies_of.Given as goal

-- the copies so far
abbrev pub invariant-loop-step : goal.invariant-loop-step
invariant-loop-step l = l.made ≡ take l.step-index l.steps
