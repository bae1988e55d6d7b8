-- A value may be sent to another thread, and may be shared with one.
use denote.Param.Send.{IsSend, IsSync, sendable}
use Rattle.std.proofs.Crossing.{crosses}
use Rattle.np_syntax.specs.contracts.value.Value as value
use Rattle.np_syntax.proofs.value.Name.TheSendSync as name_laws
use Rattle.np_syntax.proofs.value.Value.TheLaws.TheKnot as knot

pub value_send : IsSend value.the_row
value_send = search (sendable, crosses, knot.crosses, name_laws.the_send, name_laws.the_field_send) depth 40

pub value_sync : IsSync value.the_row
value_sync = search (sendable, crosses, knot.crosses, name_laws.the_sync, name_laws.the_field_sync) depth 40

pub value_field_send : IsSend (value.the_field).row
value_field_send = search (sendable, crosses, knot.crosses, name_laws.the_send, name_laws.the_field_send) depth 40

pub value_field_sync : IsSync (value.the_field).row
value_field_sync = search (sendable, crosses, knot.crosses, name_laws.the_sync, name_laws.the_field_sync) depth 40

pub ruleset values = (value_send, value_sync, value_field_send, value_field_sync)
