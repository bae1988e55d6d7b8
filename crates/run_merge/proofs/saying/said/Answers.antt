use Rattle.std.proofs.Common.{◌∙◌, map, ap}
use Rattle.std.proofs.lemmas.Result.{IfOk-weaker}
use Rattle.run_merge.specs.Merged.{past}
use Rattle.run_merge.proofs.Values.{said-shown}
use Rattle.run_merge.proofs.saying.said.Goals as goal

pub returns : goal.returns
returns c =
    let sorted = c.as_slice.ensures.value ∙ c.in_ok-sort.ensures in
    IfOk-weaker c.copied.result _ _ (λ values is. is ∙ ap (map (λ one. (one.rank.site, one.item.now))) sorted ∙ said-shown _ (past c.args.histories.now) c.in_ok-ranked.ensures) c.copied.ensures
