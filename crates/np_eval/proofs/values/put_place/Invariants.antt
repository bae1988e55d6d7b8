use Rattle.std.proofs.Common.{◌≡◌, ◌++◌, drop}
use Rattle.np_eval.specs.Eval.{put_place}
use Rattle.np_eval.proofs.values.put_place.Given as goal

abbrev pub invariant-loop-at : goal.invariant-loop-at
invariant-loop-at l = put_place l.pairs l.agent l.lock ≡ l.put ++ put_place (drop l.at l.pairs) l.agent l.lock
