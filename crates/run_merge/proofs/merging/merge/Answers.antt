use Rattle.std.proofs.Common.{◌∙◌, ap, map}
use Rattle.std.proofs.lemmas.Result.{IfOk-weaker}
use Rattle.run_merge.specs.Merged.{past}
use Rattle.run_merge.proofs.Ranks.{merged-shown}
use Rattle.run_merge.proofs.merging.merge.Goals as goal

pub returns : goal.returns
returns c =
    let sorted = c.as_slice.ensures.value ∙ c.in_ok-sort.ensures in
    IfOk-weaker c.copied.result _ _ (λ events is. is ∙ ap (map (λ one. one.item.now)) sorted ∙ merged-shown _ (past c.args.histories.now) c.in_ok-ranked.ensures) c.copied.ensures
