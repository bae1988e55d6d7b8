use Rattle.std.proofs.Common.{rules, ◌≡◌, to_z, of_z, ◌∙◌}
use Rattle.std.specs.Int.{w64}
use Rattle.np_verdict.proofs.Totals.{step}
use Rattle.np_verdict.proofs.reporting.wrapped_total.Goals as goal

pub loop-value-preserved : goal.loop-value-preserved
loop-value-preserved c =
    let back : to_z w64 (of_z w64 c.plus-sum.result) ≡ c.plus-sum.result = search rules in
    let same : to_z w64 (of_z w64 c.number_of.result) ≡ c.number_of.result = search rules in
    back
    ∙ step c.args.said.now c.loop-value.value-index c.loop-value-item.result c.plus-sum.result (to_z w64 c.loop-value.sum-bits) _ c.number_of.result
    c.plus-sum.ensures same c.number_of.ensures c.loop-value.invariant c.loop-value-item.is c.loop-value-test.true
