use Rattle.std.proofs.Common.{◌-◌, ◌≤◌, length}
use Rattle.np_lex.proofs.Steps.{Before}
use Rattle.np_lex.proofs.tokens.lex.Given as goal

abbrev pub invariant-places : goal.invariant-places
invariant-places l = record { before : Before l.source l.at l.items; within : l.at ≤ length l.source }

abbrev pub decreases-places : goal.decreases-places
decreases-places l = length l.source - l.at
