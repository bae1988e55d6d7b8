use denote.Exit.{no}
use denote.Param.Send.{arg_send, param_send}
use Rattle.site_turn.proofs.Crossing.Ports.{rings_send}
use Rattle.np_tests.proofs.crews.has_failed.Goals as goal

pub new-requires-send-P : goal.new-requires-send-P
new-requires-send-P g c κs within = param_send 1 _ (arg_send _ no _ rings_send)

pub failed-failed-requires-send-P : goal.failed-failed-requires-send-P
failed-failed-requires-send-P g c κs within = param_send 1 _ (arg_send _ no _ rings_send)
