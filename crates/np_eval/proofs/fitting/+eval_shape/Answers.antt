use Rattle.std.proofs.Common.{arith}
use Rattle.std.proofs.lemmas.Grind.{common_steps}
use Rattle.np_eval.proofs.FittingShapes.{shapes}
use Rattle.np_eval.proofs.fitting.+eval_shape.Goals as goal

pub eval_form_shape-returns-in_err-agent-in-With : goal.eval_form_shape-returns-in_err-agent-in-With
eval_form_shape-returns-in_err-agent-in-With t c = grind (arith, common_steps, shapes)

pub eval_form_shape-returns-in_err-places-in-With : goal.eval_form_shape-returns-in_err-places-in-With
eval_form_shape-returns-in_err-places-in-With t c = grind (arith, common_steps, shapes)

pub eval_form_shape-returns-in_ok-y-in-Bin : goal.eval_form_shape-returns-in_ok-y-in-Bin
eval_form_shape-returns-in_ok-y-in-Bin t c = grind (arith, common_steps, shapes)

pub all_have_values-returns-then-not-has_value : goal.all_have_values-returns-then-not-has_value
all_have_values-returns-then-not-has_value t c = grind (arith, common_steps, shapes)

pub all_have_values-loop-part-preserved : goal.all_have_values-loop-part-preserved
all_have_values-loop-part-preserved t c = grind (arith, common_steps, shapes)

pub eval_form_shape-returns-in_err-x-in-Bin : goal.eval_form_shape-returns-in_err-x-in-Bin
eval_form_shape-returns-in_err-x-in-Bin t c = grind (arith, common_steps, shapes)

pub eval_form_shape-returns-in_ok-lock-in-With : goal.eval_form_shape-returns-in_ok-lock-in-With
eval_form_shape-returns-in_ok-lock-in-With t c = grind (arith, common_steps, shapes)

pub eval_form_shape-returns-in-Some : goal.eval_form_shape-returns-in-Some
eval_form_shape-returns-in-Some t c = grind (arith, common_steps, shapes)

pub eval_form_shape-returns-in_err-lock-in-With : goal.eval_form_shape-returns-in_err-lock-in-With
eval_form_shape-returns-in_err-lock-in-With t c = grind (arith, common_steps, shapes)

pub eval_form_shape-returns-in_err-y-in-Bin : goal.eval_form_shape-returns-in_err-y-in-Bin
eval_form_shape-returns-in_err-y-in-Bin t c = grind (arith, common_steps, shapes)

pub eval_form_shape-returns-then-all_have_values : goal.eval_form_shape-returns-then-all_have_values
eval_form_shape-returns-then-all_have_values t c = grind (arith, common_steps, shapes)

pub eval_form_shape-returns-in_ok-eval_shape-in-Pack : goal.eval_form_shape-returns-in_ok-eval_shape-in-Pack
eval_form_shape-returns-in_ok-eval_shape-in-Pack t c = grind (arith, common_steps, shapes)

pub eval_form_shape-returns-in_err-eval_shape-in-Pack : goal.eval_form_shape-returns-in_err-eval_shape-in-Pack
eval_form_shape-returns-in_err-eval_shape-in-Pack t c = grind (arith, common_steps, shapes)

pub eval_form_shape-returns-in_err-chan-in-Pack : goal.eval_form_shape-returns-in_err-chan-in-Pack
eval_form_shape-returns-in_err-chan-in-Pack t c = grind (arith, common_steps, shapes)
