use Rattle.np_scope.proofs.FromGrammar.{written}
use Rattle.refusal_diagnoses.proofs.resolved.program_of.Goals as goal

pub resolve-resolved-requires-clause-written : goal.resolve-resolved-requires-clause-written
resolve-resolved-requires-clause-written c = written c.in_ok-tree.ensures.found
