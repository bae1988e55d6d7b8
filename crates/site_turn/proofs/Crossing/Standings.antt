-- The agents that stand at a site may be sent to another thread.
use denote.Param.Send.{IsSend, sendable}
use denote.Param.SendFields.{declared_send}
use Rattle.site_agents.specs.contracts.agents.Agents as agents
use Rattle.site_agents.specs.contracts.agents.Agents.TheInside as inside
use Rattle.site_agents.specs.contracts.seat.Seat as seat
use Rattle.site_agents.proofs.queue.Queue.TheSendSync as queue_laws
use Rattle.np_tables.proofs.table.Table.TheSendSync as table_laws
use Rattle.site_turn.proofs.Crossing.Agents.{agent_send}

pub seat_send : IsSend seat.the_row
seat_send = search (sendable, agent_send) depth 40

inside_send : IsSend inside.the_row
inside_send = let seats = table_laws.the_send seat.the_row seat_send in
    declared_send inside.the_type (search (sendable, seats), (search (sendable, queue_laws.the_send), (search (sendable, queue_laws.the_send), tt)))

pub agents_send : IsSend agents.the_row
agents_send = search (sendable, inside_send)
