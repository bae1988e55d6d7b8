use denote.Exit.{no}
use denote.Param.Send.{arg_send, param_send}
use Rattle.site_turn.proofs.Crossing.Ports.{rings_send, trays_send}
use Rattle.crew_inboxes.proofs.Items.{inboxes_send}
use Rattle.np_on_sites.proofs.running.on_links.Goals as goal

pub over-requires-send-P : goal.over-requires-send-P
over-requires-send-P g c κs within = param_send 1 _ (arg_send _ no _ trays_send)

pub over-requires-in-Rings-send-P : goal.over-requires-in-Rings-send-P
over-requires-in-Rings-send-P g c κs within = param_send 1 _ (arg_send _ no _ rings_send)

pub over-requires-in-Inbox-send-P : goal.over-requires-in-Inbox-send-P
over-requires-in-Inbox-send-P g c κs within = param_send 1 _ (arg_send _ no _ inboxes_send)
