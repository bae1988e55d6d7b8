use Rattle.std.proofs.lemmas.Grind.{common_steps}
use Rattle.std.proofs.Common.{rules, arith}
use Rattle.np_parse.proofs.Steps.{all_parts}
use Rattle.np_parse.proofs.types.+ty.Goals as goal

pub type_parts-parts-init : goal.type_parts-parts-init
type_parts-parts-init t c = search rules

pub type_parts-returns-then-closes-clause-within : goal.type_parts-returns-then-closes-clause-within
type_parts-returns-then-closes-clause-within t c = grind (arith, common_steps, all_parts)

pub type_parts-returns-in_err-take-clause-reads : goal.type_parts-returns-in_err-take-clause-reads
type_parts-returns-in_err-take-clause-reads t c = grind (arith, common_steps, all_parts)

pub type_parts-returns-in_err-peek-clause-reads : goal.type_parts-returns-in_err-peek-clause-reads
type_parts-returns-in_err-peek-clause-reads t c = grind (arith, common_steps, all_parts)

pub type_parts-returns-in_err-item-clause-reads : goal.type_parts-returns-in_err-item-clause-reads
type_parts-returns-in_err-item-clause-reads t c = grind (arith, common_steps, all_parts)

pub type_parts-returns-in_err-expect_sign-clause-reads : goal.type_parts-returns-in_err-expect_sign-clause-reads
type_parts-returns-in_err-expect_sign-clause-reads t c = grind (arith, common_steps, all_parts)

pub type_parts-parts-preserved : goal.type_parts-parts-preserved
type_parts-parts-preserved t c = grind (arith, common_steps, all_parts)
