use Rattle.std.proofs.Common.{◌≡◌, drop}
use Rattle.np_eval.specs.Levels.{eval_all}
use Rattle.np_eval.proofs.Evals.{after_values}
use Rattle.np_eval.proofs.values.+eval.Given as goal

abbrev pub invariant-eval_all-loop-part : goal.invariant-eval_all-loop-part
invariant-eval_all-loop-part l = eval_all l.parts l.env ≡ after_values l.values (eval_all (drop l.part-index l.parts) l.env)
