use Rattle.std.proofs.lemmas.Grind.{common_steps}
use Rattle.std.proofs.Common.{arith}
use Rattle.np_syntax.proofs.Tells.{told_other}
use Rattle.np_syntax.proofs.value.+value_same.Goals as goal

pub Value::same-returns-in_default : goal.Value::same-returns-in_default
Value::same-returns-in_default t c = told_other c.in-Int.is (c.in_default.not-Int c.in-Int.mine)

pub Value::same-returns-in_default-other : goal.Value::same-returns-in_default-other
Value::same-returns-in_default-other t c = told_other c.in-Truth.is (c.in_default-other.not-Truth c.in-Truth.mine)

pub Value::same-returns-in_default-other-2 : goal.Value::same-returns-in_default-other-2
Value::same-returns-in_default-other-2 t c = told_other c.in-Str.is (c.in_default-other-2.not-Str c.in-Str.mine)

pub Value::same-returns-in_default-other-3 : goal.Value::same-returns-in_default-other-3
Value::same-returns-in_default-other-3 t c = told_other c.in-Site.is (c.in_default-other-3.not-Site c.in-Site.mine)

pub Value::same-returns-in_default-other-4 : goal.Value::same-returns-in_default-other-4
Value::same-returns-in_default-other-4 t c = told_other c.in-Agent.is (c.in_default-other-4.not-Agent c.in-Agent.mine)

pub Value::same-returns-in_default-other-5 : goal.Value::same-returns-in_default-other-5
Value::same-returns-in_default-other-5 t c = told_other c.in-Chan.is (c.in_default-other-5.not-Chan c.in-Chan.mine)

pub Value::same-returns-in_default-other-6 : goal.Value::same-returns-in_default-other-6
Value::same-returns-in_default-other-6 t c = told_other c.in-Tuple.is (c.in_default-other-6.not-Tuple c.in-Tuple.mine)

pub Value::same-returns-in_default-other-7 : goal.Value::same-returns-in_default-other-7
Value::same-returns-in_default-other-7 t c = told_other c.in-Letter.is (c.in_default-other-7.not-Letter c.in-Letter.chan c.in-Letter.mine)

pub Value::same-returns-in_default-other-8 : goal.Value::same-returns-in_default-other-8
Value::same-returns-in_default-other-8 t c = told_other c.in-Places.is (c.in_default-other-8.not-Places c.in-Places.mine)

pub same_values-returns-then-mine-theirs : goal.same_values-returns-then-mine-theirs
same_values-returns-then-mine-theirs t c = grind (arith, common_steps)

pub Value::same-returns-in-Places-other : goal.Value::same-returns-in-Places-other
Value::same-returns-in-Places-other t c = grind (arith, common_steps)

pub Value::same-returns-in-Site-other : goal.Value::same-returns-in-Site-other
Value::same-returns-in-Site-other t c = grind (arith, common_steps)

pub Value::same-returns-in-Int-other : goal.Value::same-returns-in-Int-other
Value::same-returns-in-Int-other t c = grind (arith, common_steps)

pub same_values-returns-then-not-same : goal.same_values-returns-then-not-same
same_values-returns-then-not-same t c = grind (arith, common_steps)

pub same_values-returns : goal.same_values-returns
same_values-returns t c = grind (arith, common_steps)

pub Value::same-returns-in-Agent-other : goal.Value::same-returns-in-Agent-other
Value::same-returns-in-Agent-other t c = grind (arith, common_steps)

pub Value::same-returns-in-Truth-other : goal.Value::same-returns-in-Truth-other
Value::same-returns-in-Truth-other t c = grind (arith, common_steps)

pub same_values-loop-at-preserved : goal.same_values-loop-at-preserved
same_values-loop-at-preserved t c = grind (arith, common_steps)

pub Value::same-returns-in-Chan-other : goal.Value::same-returns-in-Chan-other
Value::same-returns-in-Chan-other t c = grind (arith, common_steps)

pub Value::same-returns-else-eq : goal.Value::same-returns-else-eq
Value::same-returns-else-eq t c = grind (arith, common_steps)

pub Value::same-returns-in-Str-other : goal.Value::same-returns-in-Str-other
Value::same-returns-in-Str-other t c = grind (arith, common_steps)
