use Rattle.std.proofs.lemmas.Grind.{common_steps}
use Rattle.std.proofs.Common.{◌++◌, ◌∷◌, [], sym, ◌∙◌, arith}
use Rattle.std.proofs.lemmas.List.{length_push}
use Rattle.crew_ends.proofs.First.{seated_push, seated_whole, whole_end, whole_length, whole_more}
use Rattle.crew_ends.proofs.starting.seats_for.Goals as goal

pub loop-port-preserved : goal.loop-port-preserved
loop-port-preserved g c =
    let i = c.loop-port.invariant in
    let w = whole_more c.loop-port.yielded c.loop-port.port-iterator.rest.items c.next.new.self.rest.items c.in-Some.port i.whole c.in-Some.ensures.steps.0 in
    let b = whole_length (c.loop-port.yielded ++ c.in-Some.port ∷ []) c.next.new.self.rest.items w in
    record {
      whole = w;
      number = omega (arith, c.requires.ports.0, c.requires.ports.1, b, length_push c.loop-port.yielded c.in-Some.port, i.number);
      seated = seated_push c.loop-port.number c.in-Some.port c.in_ok-seat.seat i.seated i.number c.in_ok-seat.ensures c.in_ok-push.ensures.items;
    }

pub returns : goal.returns
returns g c =
    let i = c.loop-port.invariant in
    let e = whole_end c.loop-port.yielded c.loop-port.port-iterator.rest.items i.whole (sym c.loop-port.port-iterator.rest.ok.0 ∙ c.in-None.ensures.steps.0) in
    seated_whole i.seated e

pub loop-port-init : goal.loop-port-init
loop-port-init g c = grind (arith, common_steps)

pub first_seat-requires-clause-number : goal.first_seat-requires-clause-number
first_seat-requires-clause-number g c = grind (arith, common_steps)
