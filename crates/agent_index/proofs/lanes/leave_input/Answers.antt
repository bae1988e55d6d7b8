use Rattle.std.proofs.Common.{sym}
use Rattle.agent_index.specs.Lanes.{LosesInput}
use Rattle.agent_index.proofs.LaneLaws.{bare-here, goes-bare}
use Rattle.agent_index.proofs.lanes.leave_input.Goals as goal

pub give_up-requires-clause-bare : goal.give_up-requires-clause-bare
give_up-requires-clause-bare c = bare-here c.args.table.now.items c.args.chan c.remove_input.new.self (sym c.if-is_bare.ensures)

pub returns-then-is_bare-clause-left : goal.returns-then-is_bare-clause-left
returns-then-is_bare-clause-left c =
    goes-bare (LosesInput c.args.mark) c.args.table.now.items c.give_up.new.table.items c.args.chan c.in-Some.waiters.now c.remove_input.new.self c.in-Some.ensures.value
    (record { inputs = c.remove_input.ensures.inputs; outputs = c.remove_input.ensures.outputs; room = c.remove_input.ensures.room }) (sym c.if-is_bare.ensures) c.give_up.ensures.items
