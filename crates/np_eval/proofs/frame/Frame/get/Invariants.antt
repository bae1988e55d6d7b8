use Rattle.std.proofs.Common.{◌≡◌}
use Rattle.std.specs.FinMap as map
use Rattle.np_eval.specs.Pairs.{map_from}
use Rattle.np_eval.proofs.frame.Frame.get.Given as goal

-- the pairs that were passed are of other binders
abbrev pub invariant-loop-rest : goal.invariant-loop-rest
invariant-loop-rest l = map.get (map_from l.rest) l.binder ≡ map.get l.self l.binder
