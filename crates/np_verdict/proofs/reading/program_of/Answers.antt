use Rattle.std.proofs.Common.{inr, ap, ◌∙◌}
use Rattle.np_scope.proofs.FromGrammar.{written}
use Rattle.np_verdict.specs.Faults.{of_scope}
use Rattle.np_verdict.proofs.reading.program_of.Goals as goal

pub resolve-resolved-requires-clause-written : goal.resolve-resolved-requires-clause-written
resolve-resolved-requires-clause-written c = written c.in_ok-tree.ensures.found

pub returns-in-Err-clause-refused : goal.returns-in-Err-clause-refused
returns-in-Err-clause-refused c = λ some. inr (record {
  fail = c.in-Err.fail;
  is = c.of_scope.ensures;
  tree = c.in_ok-tree.tree;
  parsed = c.in_ok-tree.ensures.found;
  refused = c.in-Err.ensures.refused (λ memory. some (c.of_scope.ensures ∙ ap of_scope memory));
})
