use denote.Exit.{no}
use denote.Param.Send.{arg_send, param_send}
use Rattle.site_turn.proofs.Crossing.Ports.{rings_send}
use Rattle.np_tests.proofs.links.rings_carry_items_within_a_round.Goals as goal

pub goes_within_a_round-requires-send-P : goal.goes_within_a_round-requires-send-P
goes_within_a_round-requires-send-P g c κs = param_send 1 _ (arg_send _ no _ rings_send)
