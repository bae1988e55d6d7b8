use Rattle.std.proofs.Common.{◌≡◌, drop}
use Rattle.std.specs.Option.{is_some}
use Rattle.np_eval.specs.Levels.{eval_all}
use Rattle.np_eval.proofs.fitting.+eval_shape.Given as goal

abbrev pub invariant-all_have_values-loop-part : goal.invariant-all_have_values-loop-part
invariant-all_have_values-loop-part l = is_some (eval_all l.parts l.env) ≡ is_some (eval_all (drop l.part-index l.parts) l.env)
