use Rattle.std.proofs.Common.{◌≡◌, take, map}
use Rattle.std.specs.List.{flat_map}
use Rattle.run_merge.specs.Merged.{values_of, past, shown}
use Rattle.run_merge.proofs.saying.ranked_values.Given as goal

abbrev pub invariant-loop-history : goal.invariant-loop-history
invariant-loop-history l = map shown l.ranked.items ≡ flat_map values_of (past (take l.history-index l.histories))
