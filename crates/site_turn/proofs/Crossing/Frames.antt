-- A frame may be sent to another thread, though threads may share its pairs.
use denote.Param.Send.{IsSend, IsSync, sendable}
use Rattle.std.proofs.Crossing.{crosses}
use Rattle.np_eval.specs.contracts.frame.Frame as frame
use Rattle.np_eval.specs.contracts.frame.Pair as pair
use Rattle.np_eval.proofs.frame.Pair.TheLaws.TheKnot as knot
use Rattle.site_turn.proofs.Crossing.Values.{values}

pub pair_send : IsSend pair.the_row
pair_send = search (sendable, crosses, knot.crosses_both, values) depth 40

pub pair_sync : IsSync pair.the_row
pair_sync = search (sendable, crosses, knot.crosses_both, values) depth 40

pub frame_send : IsSend frame.the_row
frame_send = search (sendable, crosses, pair_send, pair_sync) depth 40
