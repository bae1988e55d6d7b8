-- A site beside its port may be sent to another thread, where the port may.
use denote.RattleType.{RattleType}
use denote.Param.Send.{IsSend, sendable}
use denote.Param.SendFields.{declared_send}
use Rattle.site_turn.specs.contracts.seat.Seat as seat
use Rattle.site_turn.proofs.Crossing.Items.{item_send}
use Rattle.site_turn.proofs.Crossing.Sites.{site_send}

pub seat_send : (P : RattleType) → IsSend P → IsSend (seat.the_row P)
seat_send P sent = declared_send (seat.the_type P) (search (sendable, site_send), (search (sendable, sent), (search (sendable, item_send) depth 40, (search sendable, (search sendable, (search sendable, tt))))))
