use Rattle.std.proofs.Common.{◌≡◌, take, map}
use Rattle.std.specs.List.{flat_map}
use Rattle.run_merge.specs.Merged.{events_of, past, shown}
use Rattle.run_merge.proofs.merging.ranked_events.Given as goal

abbrev pub invariant-loop-history : goal.invariant-loop-history
invariant-loop-history l = map shown l.ranked.items ≡ flat_map events_of (past (take l.history-index l.histories))
