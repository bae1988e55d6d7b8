use Rattle.std.proofs.Common.{suc, ◌+◌, ◌*◌, ◌-◌, ◌≡◌, ◌≤◌}
use Rattle.np_syntax.specs.declared.limits.TheConstants.{MOST_PARTS}
use Rattle.np_parse.specs.Read.Tuples.{parts}
use Rattle.np_parse.specs.Read.Expressions.{operator, operand, chain, expr}
use Rattle.np_parse.proofs.expression.+expr.Given as goal

abbrev pub decreases-expr : goal.decreases-expr
decreases-expr l = 12 * l.levels

abbrev pub decreases-operand : goal.decreases-operand
decreases-operand l = 12 * l.levels

abbrev pub decreases-expr_in : goal.decreases-expr_in
decreases-expr_in l = 12 * l.below + 11

abbrev pub decreases-sum_in : goal.decreases-sum_in
decreases-sum_in l = 12 * l.below + 9

abbrev pub decreases-prod_in : goal.decreases-prod_in
decreases-prod_in l = 12 * l.below + 7

abbrev pub decreases-atom_in : goal.decreases-atom_in
decreases-atom_in l = 12 * l.below + 5

abbrev pub decreases-comparison : goal.decreases-comparison
decreases-comparison l = 12 * l.below + 1

abbrev pub decreases-chain : goal.decreases-chain
decreases-chain l = 12 * l.below + 1

abbrev pub decreases-round : goal.decreases-round
decreases-round l = 12 * l.below + 1

abbrev pub decreases-tuple : goal.decreases-tuple
decreases-tuple l = 12 * l.below + 3

abbrev pub decreases-expr_parts : goal.decreases-expr_parts
decreases-expr_parts l = 12 * l.below + 1

abbrev pub invariant-expr_parts-parts : goal.invariant-expr_parts-parts
invariant-expr_parts-parts l = record {
  same : parts (expr l.below) MOST_PARTS l.initial.items 0 l.initial.tokens ≡ parts (expr l.below) (MOST_PARTS - l.counter) l.items l.depth l.tokens;
  within : l.depth ≤ l.below;
}

abbrev pub invariant-chain-turns : goal.invariant-chain-turns
invariant-chain-turns l = record {
  same : chain (operator l.rank) (operand l.rank l.below) (suc l.below) (suc l.below) l.initial.left l.initial.tokens
      ≡ chain (operator l.rank) (operand l.rank l.below) (suc l.below) (suc l.below - l.counter) l.left l.tokens;
  within : l.left.1 ≤ l.below + 1;
}
