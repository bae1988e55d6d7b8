-- A port over inboxes may be sent to another thread, as an item under way may.
use denote.Param.Send.{IsSend, sendable}
use denote.Param.SendFields.{declared_send}
use Rattle.std.proofs.Crossing.{crosses}
use Rattle.site_turn.proofs.Crossing.Items.{item_send}
use Rattle.site_inboxes.proofs.ends.Inbox.TheSendSync as inbox_laws
use Rattle.site_inboxes.proofs.ends.Outlet.TheSendSync as outlet_laws
use Rattle.crew_inboxes.specs.contracts.inboxes.Inboxes as port

pub inboxes_send : IsSend port.the_row
inboxes_send = declared_send port.the_type (search sendable, (search (sendable, crosses, inbox_laws.the_send, item_send) depth 40, (search (sendable, crosses, outlet_laws.the_send, item_send) depth 40, tt)))
