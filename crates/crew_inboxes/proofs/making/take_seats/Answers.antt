use Rattle.std.proofs.Common.{◌≡◌, ◌∙◌, ℕ, length, refl, sym, subst, arith}
use Rattle.std.proofs.lemmas.Iterator.Adapters.{YieldsList-from_vec}
use Rattle.std.proofs.lemmas.Iterator.Consumers.{YieldsList-turn}
use Rattle.std.proofs.lemmas.List.{length_push}
use Rattle.std.proofs.lemmas.Option.{slice_get_read}
use Rattle.crew_inboxes.specs.Seats.{Seated}
use Rattle.crew_inboxes.proofs.Weaving.{woven_number, woven_sites}
use Rattle.crew_inboxes.proofs.Sitting.{seated_more}
use Rattle.crew_inboxes.proofs.making.take_seats.Goals as goal

pub overflow_cast-site : goal.overflow_cast-site
overflow_cast-site c =
    let l = c.loop-seat in let from = c.into_iter-seat-iterator.ensures.into_iter_gives in let road = YieldsList-from_vec c.args.seats.items from.0 (from.1 ∙ c.args.seats.ok.0) in
    let turn = YieldsList-turn road l.yielded l.seat-iterator l.yielded_by c.next.result c.next.new.self c.in-Some.seat c.in-Some.is c.next.ensures.steps in
    omega (arith, turn.0, c.len-site.ensures, l.ports.ok.0, l.invariant.seated.count, c.requires.few)

pub invariant_of-push_reserved-clause-numbered : goal.invariant_of-push_reserved-clause-numbered
invariant_of-push_reserved-clause-numbered c =
    let l = c.loop-seat in let xs = c.args.seats.items in let m = length l.yielded in
    let from = c.into_iter-seat-iterator.ensures.into_iter_gives in let road = YieldsList-from_vec xs from.0 (from.1 ∙ c.args.seats.ok.0) in
    let turn = YieldsList-turn road l.yielded l.seat-iterator l.yielded_by c.next.result c.next.new.self c.in-Some.seat c.in-Some.is c.next.ensures.steps in
    let site : c.len-site.result ≡ m = c.len-site.ensures ∙ (l.ports.ok.0 ∙ l.invariant.seated.count) in
    λ k way e. woven_number (length xs) m xs c.in-Some.seat c.requires.woven (slice_get_read xs (length xs) m c.in-Some.seat refl turn.0 turn.1) k way e ∙ sym site

pub invariant_of-push_reserved-clause-reaches : goal.invariant_of-push_reserved-clause-reaches
invariant_of-push_reserved-clause-reaches c =
    let l = c.loop-seat in let xs = c.args.seats.items in let m = length l.yielded in
    let from = c.into_iter-seat-iterator.ensures.into_iter_gives in let road = YieldsList-from_vec xs from.0 (from.1 ∙ c.args.seats.ok.0) in
    let turn = YieldsList-turn road l.yielded l.seat-iterator l.yielded_by c.next.result c.next.new.self c.in-Some.seat c.in-Some.is c.next.ensures.steps in
    woven_sites (length xs) m xs c.in-Some.seat c.requires.woven (slice_get_read xs (length xs) m c.in-Some.seat refl turn.0 turn.1)

pub loop-seat-preserved : goal.loop-seat-preserved
loop-seat-preserved c =
    let l = c.loop-seat in let xs = c.args.seats.items in let m = length l.yielded in let ports = c.push_reserved.new.self in
    let from = c.into_iter-seat-iterator.ensures.into_iter_gives in let road = YieldsList-from_vec xs from.0 (from.1 ∙ c.args.seats.ok.0) in
    let turn = YieldsList-turn road l.yielded l.seat-iterator l.yielded_by c.next.result c.next.new.self c.in-Some.seat c.in-Some.is c.next.ensures.steps in
    let site : c.len-site.result ≡ m = c.len-site.ensures ∙ (l.ports.ok.0 ∙ l.invariant.seated.count) in
    let was = slice_get_read xs (length xs) m c.in-Some.seat refl turn.0 turn.1 in
    record {
      seated = subst (λ (n : ℕ). Seated n xs ports.items) (sym (length_push l.yielded c.in-Some.seat))
          (seated_more m xs l.ports.items ports.items _ l.invariant.seated c.push_reserved.ensures.items (record { seat = c.in-Some.seat; is = was; site_is = site; inbox_is = refl; ways_are = refl }));
      room = omega (arith, c.push_reserved.ensures.capacity, l.invariant.room);
    }
