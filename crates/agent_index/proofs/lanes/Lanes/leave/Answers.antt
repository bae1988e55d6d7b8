use Rattle.std.proofs.Common.{arith}
use Rattle.agent_index.specs.Lanes.{LosesInput, LosesOutput}
use Rattle.agent_index.proofs.LaneLaws.{gone-filled, gone-input, gone-output, gone-rooms}
use Rattle.agent_index.proofs.lanes.Lanes.leave.Goals as goal

pub invariant_of-self : goal.invariant_of-self
invariant_of-self c =
    let inside = c.self.inside in
    let inv = c.self.invariant in
    let left = c.leave_output.ensures.left in
    record {
      rooms = gone-rooms (LosesOutput c.args.mark) (λ v w l. l.room) inside.table.items c.leave_output.new.table.items c.in-Gives.chan inside.first inside.second left inv.rooms;
      filled = gone-filled (LosesOutput c.args.mark) (λ v w l. l.room) inside.table.items c.leave_output.new.table.items c.in-Gives.chan inside.first inside.second left inv.filled;
      places = let p = inv.places in let l = c.leave_output.ensures.spare in omega (arith, p, l);
      stock = let p = inv.stock in let l = c.leave_output.ensures.stock in omega (arith, p, l);
      stocked = c.leave_output.ensures.stocked;
    }

pub returns-in-Gives-clause-lines : goal.returns-in-Gives-clause-lines
returns-in-Gives-clause-lines c = rw (← c.self.view_is, c.in-Gives.is) (gone-output c.self.inside.table.items c.leave_output.new.table.items c.in-Gives.chan c.args.mark c.leave_output.ensures.left)

pub invariant_of-self-in-Takes : goal.invariant_of-self-in-Takes
invariant_of-self-in-Takes c =
    let inside = c.self.inside in
    let inv = c.self.invariant in
    let left = c.leave_input.ensures.left in
    record {
      rooms = gone-rooms (LosesInput c.args.mark) (λ v w l. l.room) inside.table.items c.leave_input.new.table.items c.in-Takes.chan inside.first inside.second left inv.rooms;
      filled = gone-filled (LosesInput c.args.mark) (λ v w l. l.room) inside.table.items c.leave_input.new.table.items c.in-Takes.chan inside.first inside.second left inv.filled;
      places = let p = inv.places in let l = c.leave_input.ensures.spare in omega (arith, p, l);
      stock = let p = inv.stock in let l = c.leave_input.ensures.stock in omega (arith, p, l);
      stocked = c.leave_input.ensures.stocked;
    }

pub returns-in-Takes-clause-lines : goal.returns-in-Takes-clause-lines
returns-in-Takes-clause-lines c = rw (← c.self.view_is, c.in-Takes.is) (gone-input c.self.inside.table.items c.leave_input.new.table.items c.in-Takes.chan c.args.mark c.leave_input.ensures.left)
