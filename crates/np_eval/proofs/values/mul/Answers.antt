use Rattle.std.proofs.Common.{rules}
use Rattle.std.proofs.lemmas.Int.{wraps}
use Rattle.np_eval.proofs.values.mul.Goals as goal

pub returns : goal.returns
returns c = search (rules, wraps)
