use Rattle.std.proofs.Common.{◌≡◌, ◌++◌, take, map}
use Rattle.run_merge.specs.Merged.{ranked, shown}
use Rattle.run_merge.proofs.merging.add_events.Given as goal

abbrev pub invariant-loop-stamped : goal.invariant-loop-stamped
invariant-loop-stamped l = map shown l.ranked.items ≡ map shown l.fn.ranked.items ++ map (ranked l.site) (take l.stamped-index l.stamped-items)
