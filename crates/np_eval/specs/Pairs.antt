-- The map that the pairs of a frame make: each is put over the older ones.
use Rattle.std.specs.Prelude.{Option, None, Some}
use Rattle.std.specs.Arc.{arc_value}
use Rattle.std.specs.FinMap as map
use Rattle.std.specs.declared.alloc.Global.{Global}
use Rattle.std.specs.declared.sync.Arc.{Arc}
use Rattle.np_eval.specs.declared.frame.Pair.{Pair, Pair', Held-Pair-older, None', Some'}
use Rattle.np_eval.specs.Eval.{Env}

abbrev mutual
  pub map_of : Pair → Env
  map_of (Pair' binder value older) = map.insert (map_of_older older) binder value

  pub map_of_older : Held-Pair-older → Env
  map_of_older None' = map.empty
  map_of_older (Some' p pair) = map_of pair

-- the map from the newest pair on, if there is one
abbrev pub map_from : Option (Arc Pair Global) → Env
map_from None = map.empty
map_from (Some pair) = map_of (arc_value pair)
