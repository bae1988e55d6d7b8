use Rattle.std.proofs.Common.{ℕ, ◌<◌, get_or}
use Rattle.np_configuration.proofs.Common.{Name, MayAct}
use Rattle.np_configuration.proofs.going.any_may_act.Given as goal

abbrev pub invariant-loop-at : goal.invariant-loop-at
invariant-loop-at l = (k : ℕ) (d : Name) → k < l.at → MayAct l.atoms.items l.places.items (get_or l.atoms.keys k d) → ⊥
