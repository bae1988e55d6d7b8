use Rattle.std.proofs.lemmas.Grind.{common_steps}
use Rattle.std.proofs.Common.{◌<◌, ◌≤◌, length, arith, subst, sym}
use Rattle.site_turn.specs.declared.seat.Seat.{Seat}
use Rattle.site_turn.specs.Turns.{Seated}
use Rattle.site_crew.proofs.Goings.{serial_done, serial_rest}
use Rattle.site_crew.proofs.turns.serial_turns.Goals as goal

pub turn-requires-after_bounds : goal.turn-requires-after_bounds
turn-requires-after_bounds g c κs within =
    let i = c.loop-i.i in
    let le : i ≤ i = omega arith in
    let a : i < length c.loop-i.seats = omega arith in
    let b : i < length c.args.seats.now = omega arith in
    subst (λ (s : Seat _). Seated g.P.Port c.args.code.now s) (sym (c.loop-i.invariant.rest i c.index-seats-i.result le a)) (c.requires i c.index-seats-i.result b)

pub loop-i-preserved : goal.loop-i-preserved
loop-i-preserved g c =
    let h : c.loop-i.i < length c.loop-i.seats = omega arith in
    record {
      done = serial_done c.args.walks c.args.seats.now c.loop-i.seats c.loop-i.i c.index-seats-i.result c.turn.new.seat h c.loop-i.invariant.done c.loop-i.invariant.rest
          (record { turned = c.turn.ensures.turned; idle = c.turn.ensures.idle; sends = c.turn.ensures.sends; failed = c.turn.ensures.failed });
      rest = serial_rest c.args.seats.now c.loop-i.seats c.loop-i.i c.turn.new.seat c.loop-i.invariant.rest;
    }

pub loop-i-init : goal.loop-i-init
loop-i-init g c = grind (arith, common_steps)

pub offset_bounds-seats-i : goal.offset_bounds-seats-i
offset_bounds-seats-i g c = grind (arith, common_steps)
