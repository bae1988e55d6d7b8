use denote.Exit.{no}
use denote.Param.Send.{arg_send, param_send}
use Rattle.site_turn.proofs.Crossing.Items.{item_send}
use Rattle.crew_inboxes.proofs.making.add_seat.Goals as goal

pub new-requires-send-I : goal.new-requires-send-I
new-requires-send-I c κs = param_send 0 _ (arg_send _ no _ item_send)
