use Rattle.std.proofs.Common.{◌≡◌, take}
use Rattle.std.specs.List.{flat_map}
use Rattle.text_colours.specs.Colours as spec
use Rattle.text_colours.proofs.paint.painted.Given as goal

-- the text of the pieces so far
abbrev pub invariant-loop-piece : goal.invariant-loop-piece
invariant-loop-piece l = l.text ≡ flat_map spec.painted (take l.piece-index l.pieces)
