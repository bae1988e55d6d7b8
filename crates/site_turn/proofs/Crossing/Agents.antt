-- An agent with all its atoms may be sent to another thread, and a packet.
use denote.Param.Send.{IsSend, sendable}
use denote.Param.SendFields.{declared_send}
use Rattle.std.proofs.Crossing.{crosses}
use Rattle.np_syntax.proofs.process.Tag.TheSendSync as tag_laws
use Rattle.np_syntax.proofs.value.Name.TheSendSync as name_laws
use Rattle.np_calculus.specs.contracts.config.Packet as packet
use Rattle.agent_index.proofs.index.Index.TheSendSync as index_laws
use Rattle.agent_pool.specs.contracts.agent.Agent as agent
use Rattle.agent_pool.specs.contracts.agent.Agent.TheInside as inside
use Rattle.agent_pool.specs.contracts.held.Held as held
use Rattle.site_turn.proofs.Crossing.Frames.{frame_send}
use Rattle.site_turn.proofs.Crossing.Values.{value_field_send}

pub held_send : IsSend held.the_row
held_send = search (sendable, crosses, frame_send, value_field_send, name_laws.the_field_send, tag_laws.the_field_send) depth 40

pub packet_field_send : IsSend (packet.the_field).row
packet_field_send = search (sendable, crosses, value_field_send, name_laws.the_field_send, tag_laws.the_field_send) depth 40

inside_send : IsSend inside.the_row
inside_send = let atoms = index_laws.the_send held.the_row held_send in
    declared_send inside.the_type (search (sendable, name_laws.the_send), (search (sendable, atoms), tt))

pub agent_send : IsSend agent.the_row
agent_send = search (sendable, inside_send)
