use Rattle.std.proofs.Common.{◌+◌, ◌*◌, ◌-◌, ◌≡◌, ◌≤◌}
use Rattle.np_syntax.specs.declared.limits.TheConstants.{MOST_PARTS}
use Rattle.np_parse.specs.Read.Tuples.{parts}
use Rattle.np_parse.specs.Read.Types.{type}
use Rattle.np_parse.proofs.types.+ty.Given as goal

abbrev pub decreases-ty : goal.decreases-ty
decreases-ty l = 6 * l.levels

abbrev pub decreases-type_in : goal.decreases-type_in
decreases-type_in l = 6 * l.below + 5

abbrev pub decreases-carried : goal.decreases-carried
decreases-carried l = 6 * l.below + 3

abbrev pub decreases-tuple_type : goal.decreases-tuple_type
decreases-tuple_type l = 6 * l.below + 3

abbrev pub decreases-type_parts : goal.decreases-type_parts
decreases-type_parts l = 6 * l.below + 1

abbrev pub invariant-type_parts-parts : goal.invariant-type_parts-parts
invariant-type_parts-parts l = record {
  same : parts (type l.below) MOST_PARTS l.initial.items 0 l.initial.tokens ≡ parts (type l.below) (MOST_PARTS - l.counter) l.items l.depth l.tokens;
  within : l.depth ≤ l.below;
}
