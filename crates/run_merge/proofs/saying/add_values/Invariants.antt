use Rattle.std.proofs.Common.{◌≡◌, ◌++◌, drop, map, length}
use Rattle.run_merge.specs.Merged.{ranked, print_events, with_ranks, values_of, shown}
use Rattle.run_merge.proofs.saying.add_values.Given as goal

-- what is there already and what is still to come is all
abbrev pub invariant-loop-stamped : goal.invariant-loop-stamped
invariant-loop-stamped l = record {
  count : length (drop l.next l.values) ≡ length (print_events (map (ranked l.site) (drop l.stamped-index l.stamped-items)));
  all : map shown l.ranked.items ++ with_ranks (print_events (map (ranked l.site) (drop l.stamped-index l.stamped-items))) (drop l.next l.values)
      ≡ map shown l.fn.ranked.items ++ values_of l.fn.history.history;
}
