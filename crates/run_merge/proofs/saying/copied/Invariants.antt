use Rattle.std.proofs.Common.{◌≡◌, take, map}
use Rattle.run_merge.proofs.saying.copied.Given as goal

abbrev pub invariant-loop-one : goal.invariant-loop-one
invariant-loop-one l = l.values ≡ map (λ one. (one.rank.site, one.item.now)) (take l.one-index l.ranked)
