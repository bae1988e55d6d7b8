use Rattle.std.proofs.Common.{◌≡◌, ◌++◌, map, drop}
use Rattle.picture_svg.specs.Placed.{places, standing}
use Rattle.picture_svg.proofs.drawing.spots_of.Given as goal

-- the places so far, and those still to come
abbrev pub invariant-loop-mark : goal.invariant-loop-mark
invariant-loop-mark l = record {
  count : l.event ≡ l.mark-index;
  spots : map standing l.spots ++ places l.middles l.mark-index (drop l.mark-index l.marks) ≡ places l.middles 0 l.marks;
}
