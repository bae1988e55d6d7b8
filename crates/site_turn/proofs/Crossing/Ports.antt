-- A port that carries items may be sent to another thread.
use denote.Param.Send.{IsSend, sendable}
use Rattle.agent_move.specs.contracts.item.Item as item
use Rattle.site_links.specs.contracts.port_of.PortOf as port
use Rattle.site_links.specs.contracts.ring_ends.RingEnds as ring_ends
use Rattle.site_links.specs.contracts.tray_ends.TrayEnds as tray_ends
use Rattle.site_links.proofs.port_of.PortOf.TheSendSync as port_laws
use Rattle.site_links.proofs.ring_ends.RingEnds.TheSendSync as ring_laws
use Rattle.site_links.proofs.tray_ends.TrayEnds.TheSendSync as tray_laws
use Rattle.site_turn.proofs.Crossing.Items.{item_send}

pub rings_send : IsSend (port.the_row (ring_ends.the_row item.the_row))
rings_send = search (sendable, port_laws.the_send, ring_laws.the_send, item_send)

pub trays_send : IsSend (port.the_row (tray_ends.the_row item.the_row))
trays_send = search (sendable, port_laws.the_send, tray_laws.the_send, item_send)
