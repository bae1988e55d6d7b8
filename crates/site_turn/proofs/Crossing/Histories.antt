-- A history may be sent to another thread.
use denote.Param.Send.{IsSend, sendable}
use Rattle.std.proofs.Crossing.{crosses}
use Rattle.stamp_history.specs.contracts.history.History as history
use Rattle.stamp_history.proofs.stamped.Stamped.TheSendSync as stamped_laws
use Rattle.site_turn.proofs.Crossing.Values.{value_send}

pub history_send : IsSend history.the_row
history_send = search (sendable, crosses, value_send, stamped_laws.the_send) depth 40
