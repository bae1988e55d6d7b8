use Rattle.std.proofs.Common.{rules}
use Rattle.std.proofs.lemmas.List.Sorted.{answers_always}
use Rattle.run_merge.specs.Merged.{comes_before}
use Rattle.run_merge.proofs.InOrder.{is_in_order}
use Rattle.run_merge.proofs.Ranks.{ranks_order}
use Rattle.run_merge.proofs.sorting.sort.Goals as goal

pub returns : goal.returns
returns g c =
    let keys = answers_always _ _ _ (λ f a r next called. search rules) in
    is_in_order comes_before ranks_order _ _ (c.in_ok-sort_by_key.ensures.sorted (λ one. one.rank) keys) (c.sort_by_key.ensures.stable (λ one. one.rank) keys)
