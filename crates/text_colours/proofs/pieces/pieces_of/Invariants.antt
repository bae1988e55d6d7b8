use Rattle.std.proofs.Common.{◌≡◌, ◌++◌, length}
use Rattle.text_colours.specs.Colours.{text_of}
use Rattle.text_colours.proofs.pieces.pieces_of.Given as goal

-- the pieces so far, and what is still to come
abbrev pub invariant-lines : goal.invariant-lines
invariant-lines l = text_of l.pieces ++ l.rest ≡ l.text

abbrev pub decreases-lines : goal.decreases-lines
decreases-lines l = length l.rest
