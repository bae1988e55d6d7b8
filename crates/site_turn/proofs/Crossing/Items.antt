-- A load may be sent to another thread, and an item under way.
use denote.Param.Send.{IsSend, sendable}
use denote.Param.SendFields.{declared_send}
use Rattle.np_syntax.proofs.boxed.Boxed.TheSendSync as boxed_laws
use Rattle.np_syntax.proofs.value.Name.TheSendSync as name_laws
use Rattle.agent_move.specs.contracts.item.Item as item
use Rattle.agent_move.specs.contracts.load.Load as load
use Rattle.site_turn.proofs.Crossing.Agents.{agent_send, packet_field_send}

load_send : IsSend load.the_row
load_send = search (sendable, agent_send, packet_field_send, name_laws.the_field_send) depth 40

pub item_send : IsSend item.the_row
item_send = let boxed = boxed_laws.the_send load.the_row load_send in
    declared_send item.the_type (search sendable, (search sendable, (search sendable, (search (sendable, boxed), tt))))
