use Rattle.std.proofs.Common.{◌≡◌, drop, length}
use Rattle.std.specs.Option.{is_some}
use Rattle.np_eval.specs.Eval.{Env}
use Rattle.np_eval.specs.Levels.{bind_all}
use Rattle.np_eval.proofs.fitting.+matches.Given as goal

abbrev pub invariant-matches_all-loop-at : goal.invariant-matches_all-loop-at
invariant-matches_all-loop-at l = (length l.parts ≡ length l.values) × ((env : Env) → is_some (bind_all l.parts l.values env) ≡ is_some (bind_all (drop l.at l.parts) (drop l.at l.values) env))
