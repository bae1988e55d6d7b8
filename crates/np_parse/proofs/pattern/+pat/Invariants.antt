use Rattle.std.proofs.Common.{◌+◌, ◌*◌, ◌-◌, ◌≡◌, ◌≤◌}
use Rattle.np_syntax.specs.declared.limits.TheConstants.{MOST_PARTS}
use Rattle.np_parse.specs.Read.Tuples.{parts}
use Rattle.np_parse.specs.Read.Patterns.{pat}
use Rattle.np_parse.proofs.pattern.+pat.Given as goal

abbrev pub decreases-pat : goal.decreases-pat
decreases-pat l = 6 * l.levels

abbrev pub decreases-pat_in : goal.decreases-pat_in
decreases-pat_in l = 6 * l.below + 5

abbrev pub decreases-tuple_pat : goal.decreases-tuple_pat
decreases-tuple_pat l = 6 * l.below + 3

abbrev pub decreases-pat_parts : goal.decreases-pat_parts
decreases-pat_parts l = 6 * l.below + 1

abbrev pub invariant-pat_parts-parts : goal.invariant-pat_parts-parts
invariant-pat_parts-parts l = record {
  same : parts (pat l.below) MOST_PARTS l.initial.items 0 l.initial.tokens ≡ parts (pat l.below) (MOST_PARTS - l.counter) l.items l.depth l.tokens;
  within : l.depth ≤ l.below;
}
