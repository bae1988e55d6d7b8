use Rattle.std.proofs.Common.{arith}
use Rattle.std.proofs.lemmas.Grind.{common_steps}
use Rattle.np_eval.proofs.Evals.{evals}
use Rattle.agent_pool.proofs.letters.place_in.Goals as goal

pub returns-in_default-get : goal.returns-in_default-get
returns-in_default-get c = grind (arith, common_steps, evals)
