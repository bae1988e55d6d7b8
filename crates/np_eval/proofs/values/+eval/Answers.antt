use Rattle.std.proofs.Common.{arith}
use Rattle.std.proofs.lemmas.Grind.{common_steps}
use Rattle.np_eval.proofs.Evals.{evals}
use Rattle.np_eval.proofs.values.+eval.Goals as goal

pub eval_form-returns-in-Some-2 : goal.eval_form-returns-in-Some-2
eval_form-returns-in-Some-2 t c = grind (arith, common_steps, evals)

pub eval_form-returns-in_default-6 : goal.eval_form-returns-in_default-6
eval_form-returns-in_default-6 t c = grind (arith, common_steps, evals)

pub eval_all-loop-part-preserved : goal.eval_all-loop-part-preserved
eval_all-loop-part-preserved t c = grind (arith, common_steps, evals)

pub eval_form-returns-in_default-2 : goal.eval_form-returns-in_default-2
eval_form-returns-in_default-2 t c = grind (arith, common_steps, evals)

pub eval_form-returns-in_ok-copy-in-Some : goal.eval_form-returns-in_ok-copy-in-Some
eval_form-returns-in_ok-copy-in-Some t c = grind (arith, common_steps, evals)

pub eval_form-returns-in-None : goal.eval_form-returns-in-None
eval_form-returns-in-None t c = grind (arith, common_steps, evals)

pub eval_all-returns-in_default : goal.eval_all-returns-in_default
eval_all-returns-in_default t c = grind (arith, common_steps, evals)

pub eval_form-returns-in-Some-4 : goal.eval_form-returns-in-Some-4
eval_form-returns-in-Some-4 t c = grind (arith, common_steps, evals)

pub eval_form-returns-in_default : goal.eval_form-returns-in_default
eval_form-returns-in_default t c = grind (arith, common_steps, evals)

pub eval_form-returns-in_ok-copy-in-Val : goal.eval_form-returns-in_ok-copy-in-Val
eval_form-returns-in_ok-copy-in-Val t c = grind (arith, common_steps, evals)

pub eval_form-returns-in-None-2 : goal.eval_form-returns-in-None-2
eval_form-returns-in-None-2 t c = grind (arith, common_steps, evals)

pub eval_form-returns-in_default-4 : goal.eval_form-returns-in_default-4
eval_form-returns-in_default-4 t c = grind (arith, common_steps, evals)

pub eval_form-returns-in_default-7 : goal.eval_form-returns-in_default-7
eval_form-returns-in_default-7 t c = grind (arith, common_steps, evals)

pub eval_form-returns-in_default-3 : goal.eval_form-returns-in_default-3
eval_form-returns-in_default-3 t c = grind (arith, common_steps, evals)

pub eval_form-returns-in_default-5 : goal.eval_form-returns-in_default-5
eval_form-returns-in_default-5 t c = grind (arith, common_steps, evals)
