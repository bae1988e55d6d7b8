use Rattle.std.proofs.Common.{◌≡◌, ◌<◌, ◌≤◌, ◌+◌, ◌-◌, drop, length, slice_index_or, subst, arith}
use Rattle.infrastructure_texts.specs.declared.notation.Piece.TheVariants as piece
use Rattle.infrastructure_texts.specs.Whole.{made_of, part, parts_of, taken}
use Rattle.text_filling.proofs.Wholes.{binders-here, given-here, parts-here, taken-here, closed}
use Rattle.text_filling.proofs.filler.Filler.fill.Goals as goal

pub read-requires-clause-held : goal.read-requires-clause-held
read-requires-clause-held c =
    let table = c.args.table.now in
    let place = c.loop-place.place - 1 in
    let within : place < length table = omega (arith, c.loop-place-test.true, c.loop-place.auto.place) in
    let binders = binders-here table place piece.Stop within in
    let given = given-here table place piece.Stop within in
    let bound = c.requires.held.bound in
    let is_given = c.requires.held.is_given in
    record { bound = omega (arith, binders, bound); is_given = omega (arith, given, is_given) }

pub read-requires-clause-taken : goal.read-requires-clause-taken
read-requires-clause-taken c =
    let table = c.args.table.now in
    let place = c.loop-place.place - 1 in
    let within : place < length table = omega (arith, c.loop-place-test.true, c.loop-place.auto.place) in
    let next : place + 1 ≡ c.loop-place.place = omega (arith, c.loop-place-test.true) in
    let few = subst (λ n. taken (slice_index_or table place piece.Stop) ≤ made_of (drop n table)) next (taken-here table place piece.Stop within (closed table c.requires.whole)) in
    let made = c.loop-place.invariant.1 in
    omega (arith, few, made)

pub read-requires-clause-part : goal.read-requires-clause-part
read-requires-clause-part c =
    let table = c.args.table.now in
    let place = c.loop-place.place - 1 in
    let within : place < length table = omega (arith, c.loop-place-test.true, c.loop-place.auto.place) in
    let next : place + 1 ≡ c.loop-place.place = omega (arith, c.loop-place-test.true) in
    let few = subst (λ n. part (slice_index_or table place piece.Stop) + parts_of (drop n table) ≤ parts_of table) next (parts-here table place piece.Stop within) in
    let left = c.loop-place.invariant.2 in
    let parts = c.requires.parts in
    omega (arith, few, left, parts)
