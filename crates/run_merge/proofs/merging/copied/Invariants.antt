use Rattle.std.proofs.Common.{◌≡◌, take, map}
use Rattle.run_merge.proofs.merging.copied.Given as goal

abbrev pub invariant-loop-one : goal.invariant-loop-one
invariant-loop-one l = l.events ≡ map (λ one. one.item.now) (take l.one-index l.ranked)
