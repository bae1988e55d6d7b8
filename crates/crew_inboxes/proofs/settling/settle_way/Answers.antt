use Rattle.std.proofs.Common.{ap, length, sym}
use Rattle.std.proofs.Math.Logic.{∥∥₁_map}
use denote.Exit.{no}
use denote.Param.Send.{arg_send, param_send}
use Rattle.site_turn.proofs.Crossing.Items.{item_send}
use Rattle.crew_inboxes.proofs.Idle.{idle_waiting, way_idle}
use Rattle.crew_inboxes.proofs.settling.settle_way.Goals as goal

pub settle-requires-send-I : goal.settle-requires-send-I
settle-requires-send-I c κs = param_send 0 _ (arg_send _ no _ item_send)

pub returns-then-rests-clause-settled : goal.returns-then-rests-clause-settled
returns-then-rests-clause-settled c =
    let h = c.rests.ensures c.if-rests.true in way_idle c.args.way.now c.args.inbox.now (∥∥₁_map c.requires.rests (λ r. r h.0 h.1))

pub returns-then-rests-clause-waiting : goal.returns-then-rests-clause-waiting
returns-then-rests-clause-waiting c =
    let h = c.rests.ensures c.if-rests.true in sym (ap length (idle_waiting c.args.way.now c.args.inbox.now (∥∥₁_map c.requires.rests (λ r. r h.0 h.1))))
