use Rattle.std.proofs.Common.{◌≡◌, drop}
use Rattle.np_eval.specs.Eval.{find_place}
use Rattle.np_eval.proofs.operands.find_place.Given as goal

abbrev pub invariant-loop-pair : goal.invariant-loop-pair
invariant-loop-pair l = find_place l.pairs l.agent ≡ find_place (drop l.pair-index l.pairs) l.agent
