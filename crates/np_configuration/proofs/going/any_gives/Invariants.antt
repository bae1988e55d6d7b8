use Rattle.std.proofs.Common.{ℕ, ◌<◌, get_or}
use Rattle.np_configuration.proofs.Common.{Name, GivesAt}
use Rattle.np_configuration.proofs.going.any_gives.Given as goal

abbrev pub invariant-loop-at : goal.invariant-loop-at
invariant-loop-at l = (k : ℕ) (d : Name) → k < l.at → GivesAt l.atoms.items l.meeting (get_or l.atoms.keys k d) → ⊥
