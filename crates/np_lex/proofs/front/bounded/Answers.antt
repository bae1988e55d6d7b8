use Rattle.std.proofs.Common.{arith}
use Rattle.std.proofs.lemmas.Grind.{common_steps}
use Rattle.np_syntax.specs.declared.limits.TheConstants.{LARGEST_INTEGER}
use Rattle.np_syntax.proofs.Numerals.{too_large}
use Rattle.np_lex.proofs.front.bounded.Goals as goal

pub returns-then-number-digit : goal.returns-then-number-digit
returns-then-number-digit c = too_large LARGEST_INTEGER c.args.digits.now c.digits.byte-index c.digits.number c.digits-test.true c.digits.invariant.same (grind (arith, common_steps))

pub digits-preserved : goal.digits-preserved
digits-preserved c = grind (arith, common_steps)
