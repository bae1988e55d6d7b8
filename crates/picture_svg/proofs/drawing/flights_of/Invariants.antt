use Rattle.std.proofs.Common.{◌≡◌, ◌++◌, map, drop}
use Rattle.picture_svg.specs.Placed.{joined, joining}
use Rattle.picture_svg.proofs.drawing.flights_of.Given as goal

-- the arrows so far, and those still to come
abbrev pub invariant-loop-arrow : goal.invariant-loop-arrow
invariant-loop-arrow l = map joining l.flights ++ map (joined l.middles l.marks) (drop l.arrow-index l.arrows) ≡ map (joined l.middles l.marks) l.arrows
