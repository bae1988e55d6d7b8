use Rattle.std.proofs.Common.{arith}
use Rattle.std.proofs.lemmas.Grind.{common_steps}
use Rattle.np_syntax.specs.declared.limits.TheConstants.{LARGEST_NUMBER}
use Rattle.np_syntax.proofs.Numerals.{too_large}
use Rattle.history_text.proofs.fields.bounded.Goals as goal

pub returns-then-number-gt-LARGEST_NUMBER : goal.returns-then-number-gt-LARGEST_NUMBER
returns-then-number-gt-LARGEST_NUMBER c = too_large LARGEST_NUMBER c.args.digits.now c.digits.byte-index c.digits.number c.digits-test.true c.digits.invariant.same (grind (arith, common_steps))

pub digits-preserved : goal.digits-preserved
digits-preserved c = grind (arith, common_steps)
