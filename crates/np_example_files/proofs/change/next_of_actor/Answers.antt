use Rattle.std.proofs.Common.{◌≡◌, ◌<◌, length, refl, arith}
use Rattle.np_example_files.proofs.Places.{item, next_there, none_found, one_more, refuted}
use Rattle.np_example_files.proofs.change.next_of_actor.Goals as goal

pub returns-then-is_of_actor : goal.returns-then-is_of_actor
returns-then-is_of_actor c =
    let less : c.loop-ahead.ahead < length c.behind-rest.result.now = omega arith in
    next_there c.args.events.now c.behind-rest.result.now c.args.place c.loop-ahead.ahead c.in_ok-actor.field-0.now _ c.behind-rest.ensures
    (item _ _ c.in_ok-actor.field-0 c.in_ok-actor.ensures.lookup) less (c.if-is_of_actor.ensures.0 refl) c.loop-ahead.invariant

pub loop-ahead-preserved : goal.loop-ahead-preserved
loop-ahead-preserved c =
    let less : c.loop-ahead.ahead < length c.behind-rest.result.now = omega arith in
    one_more c.args.events.now c.behind-rest.result.now c.args.place c.loop-ahead.ahead c.in_ok-actor.field-0.now _ c.behind-rest.ensures
    (item _ _ c.in_ok-actor.field-0 c.in_ok-actor.ensures.lookup) less (refuted c.if-is_of_actor.ensures.1) c.loop-ahead.invariant

pub returns : goal.returns
returns c =
    let long : c.loop-ahead.ahead ≡ length c.behind-rest.result.now = omega arith in
    none_found c.args.events.now c.args.place c.loop-ahead.ahead c.loop-ahead.invariant (rw (← c.behind-rest.ensures) long)
