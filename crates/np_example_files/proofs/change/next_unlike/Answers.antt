use Rattle.std.proofs.Common.{refl}
use Rattle.np_example_files.proofs.Places.{alike_next, item, refuted, unlike_next}
use Rattle.np_example_files.proofs.change.next_unlike.Goals as goal

pub returns-then-are_alike : goal.returns-then-are_alike
returns-then-are_alike c =
    alike_next c.args.events.now c.args.place c.in_ok-later.later c.in_ok-get.field-0.now c.in_ok-get-2.field-0.now c.in_ok-later.ensures
    (item _ _ c.in_ok-get.field-0 c.in_ok-get.ensures.lookup) (item _ _ c.in_ok-get-2.field-0 c.in_ok-get-2.ensures.lookup) (c.if-are_alike.ensures.0 refl)

pub returns-else-are_alike : goal.returns-else-are_alike
returns-else-are_alike c =
    unlike_next c.args.events.now c.args.place c.in_ok-later.later c.in_ok-get.field-0.now c.in_ok-get-2.field-0.now c.in_ok-later.ensures
    (item _ _ c.in_ok-get.field-0 c.in_ok-get.ensures.lookup) (item _ _ c.in_ok-get-2.field-0 c.in_ok-get-2.ensures.lookup) (refuted c.if-are_alike.ensures.1)
