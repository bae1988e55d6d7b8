use Rattle.std.proofs.Common.{◌≡◌, drop, length}
use Rattle.np_eval.specs.Levels.{bind_all}
use Rattle.np_eval.proofs.patterns.+bind.Given as goal

abbrev pub invariant-put_all-loop-at : goal.invariant-put_all-loop-at
invariant-put_all-loop-at l = (length l.parts ≡ length l.values) × (bind_all l.parts l.values l.initial.env ≡ bind_all (drop l.at l.parts) (drop l.at l.values) l.env)
