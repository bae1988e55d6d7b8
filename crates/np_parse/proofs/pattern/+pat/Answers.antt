use Rattle.std.proofs.lemmas.Grind.{common_steps}
use Rattle.std.proofs.Common.{rules, arith}
use Rattle.np_parse.proofs.Steps.{all_parts}
use Rattle.np_parse.proofs.pattern.+pat.Goals as goal

pub pat_parts-parts-init : goal.pat_parts-parts-init
pat_parts-parts-init t c = search rules

pub pat_parts-returns-in_err-item-clause-reads : goal.pat_parts-returns-in_err-item-clause-reads
pat_parts-returns-in_err-item-clause-reads t c = grind (arith, common_steps, all_parts)

pub pat_parts-returns-in_err-expect_sign-clause-reads : goal.pat_parts-returns-in_err-expect_sign-clause-reads
pat_parts-returns-in_err-expect_sign-clause-reads t c = grind (arith, common_steps, all_parts)

pub pat_parts-returns-in_err-peek-clause-reads : goal.pat_parts-returns-in_err-peek-clause-reads
pat_parts-returns-in_err-peek-clause-reads t c = grind (arith, common_steps, all_parts)

pub pat_parts-parts-preserved : goal.pat_parts-parts-preserved
pat_parts-parts-preserved t c = grind (arith, common_steps, all_parts)

pub pat_parts-returns-in_err-take-clause-reads : goal.pat_parts-returns-in_err-take-clause-reads
pat_parts-returns-in_err-take-clause-reads t c = grind (arith, common_steps, all_parts)
