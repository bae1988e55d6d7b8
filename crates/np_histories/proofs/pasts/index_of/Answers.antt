use Rattle.std.proofs.Common.{arith}
use Rattle.np_histories.proofs.Printing.{none_more, one_more}
use Rattle.np_histories.proofs.pasts.index_of.Goals as goal
use Rattle.np_histories.proofs.pasts.index_of.Goals.{then-is_print+else-printed-line, else-is_print}

pub loop-index-preserved : goal.loop-index-preserved
loop-index-preserved c =
    let counts = c.loop-index.invariant.counts in let few = c.loop-index.invariant.few in
    elim c.if-is_print.branch [
      | then-is_print+else-printed-line w ↦ record {
        counts = one_more _ _ _ _ _ c.loop-index-test.true w.if-is_print.ensures counts w.printed-is;
        few = (let more = w.printed-is in let other = w.if-printed-line.false in omega (arith, few, more, other));
      }
      | else-is_print w ↦ record {
        counts = none_more _ _ _ _ _ c.loop-index-test.true w.if-is_print.ensures counts w.printed-is;
        few = (let same = w.printed-is in omega (arith, few, same));
      }
    ]
