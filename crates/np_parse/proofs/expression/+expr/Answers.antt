use Rattle.std.proofs.Common.{arith}
use Rattle.std.proofs.lemmas.Grind.{common_steps}
use Rattle.np_parse.proofs.Steps.{all_parts, compared, chains}
use Rattle.np_parse.specs.Read.Expressions.{readers, atom_in}
use Rattle.np_parse.proofs.expression.+expr.Goals as goal

pub expr_parts-returns-then-closes-clause-within : goal.expr_parts-returns-then-closes-clause-within
expr_parts-returns-then-closes-clause-within t c = grind (arith, common_steps, all_parts)

pub atom_in-returns-in_ok-text-in-Str-clause-reads : goal.atom_in-returns-in_ok-text-in-Str-clause-reads
unfolding readers atom_in
atom_in-returns-in_ok-text-in-Str-clause-reads t c = grind (arith, common_steps)

pub expr_parts-returns-in_err-take-clause-reads : goal.expr_parts-returns-in_err-take-clause-reads
expr_parts-returns-in_err-take-clause-reads t c = grind (arith, common_steps, all_parts)

pub comparison-operation-requires-clause-left : goal.comparison-operation-requires-clause-left
comparison-operation-requires-clause-left t c = grind (arith, common_steps, compared)

pub comparison-returns-in_err-right-clause-reads : goal.comparison-returns-in_err-right-clause-reads
comparison-returns-in_err-right-clause-reads t c = grind (arith, common_steps, compared)

pub expr_parts-returns-in_err-expect_sign-clause-reads : goal.expr_parts-returns-in_err-expect_sign-clause-reads
expr_parts-returns-in_err-expect_sign-clause-reads t c = grind (arith, common_steps, all_parts)

pub chain-returns-in_err-op-clause-reads : goal.chain-returns-in_err-op-clause-reads
chain-returns-in_err-op-clause-reads t c = grind (arith, common_steps, chains)

pub atom_in-returns-in_ok-text-in-Str-clause-within : goal.atom_in-returns-in_ok-text-in-Str-clause-within
unfolding readers atom_in
atom_in-returns-in_ok-text-in-Str-clause-within t c = grind (arith, common_steps)

pub comparison-returns-in_err-op-clause-reads : goal.comparison-returns-in_err-op-clause-reads
comparison-returns-in_err-op-clause-reads t c = grind (arith, common_steps, compared)

pub chain-turns-preserved : goal.chain-turns-preserved
chain-turns-preserved t c = grind (arith, common_steps, chains)

pub expr_parts-parts-preserved : goal.expr_parts-parts-preserved
expr_parts-parts-preserved t c = grind (arith, common_steps, all_parts)

pub chain-operation-requires-clause-left : goal.chain-operation-requires-clause-left
chain-operation-requires-clause-left t c = grind (arith, common_steps, chains)

pub expr_parts-returns-in_err-item-clause-reads : goal.expr_parts-returns-in_err-item-clause-reads
expr_parts-returns-in_err-item-clause-reads t c = grind (arith, common_steps, all_parts)

pub expr_parts-returns-in_err-peek-clause-reads : goal.expr_parts-returns-in_err-peek-clause-reads
expr_parts-returns-in_err-peek-clause-reads t c = grind (arith, common_steps, all_parts)

pub chain-returns-in_err-right-clause-reads : goal.chain-returns-in_err-right-clause-reads
chain-returns-in_err-right-clause-reads t c = grind (arith, common_steps, chains)

pub comparison-returns-clause-within : goal.comparison-returns-clause-within
comparison-returns-clause-within t c = grind (arith, common_steps, compared)
