-- A site may be sent to another thread with all that it holds.
use denote.Param.Send.{IsSend, sendable}
use denote.Param.SendFields.{declared_send}
use Rattle.std.proofs.Crossing.{crosses}
use Rattle.site_state.specs.contracts.line.Line as line
use Rattle.site_state.specs.contracts.outgoing.Outgoing as outgoing
use Rattle.site_state.specs.contracts.site.Site as site
use Rattle.site_state.specs.contracts.site.Site.TheInside as inside
use Rattle.stamp_history.proofs.clock.Clock.TheSendSync as clock_laws
use Rattle.site_turn.proofs.Crossing.Histories.{history_send}
use Rattle.site_turn.proofs.Crossing.Items.{item_send}
use Rattle.site_turn.proofs.Crossing.Standings.{agents_send}

pub line_send : IsSend line.the_row
line_send = search (sendable, crosses, item_send) depth 40

pub outgoing_send : IsSend outgoing.the_row
outgoing_send = search (sendable, crosses, line_send) depth 40

inside_send : IsSend inside.the_row
inside_send = declared_send inside.the_type (
  search sendable,
  (search sendable, (search (sendable, agents_send), (search sendable, (search (sendable, clock_laws.the_send), (search (sendable, history_send), (search (sendable, outgoing_send), tt)))))),
)

pub site_send : IsSend site.the_row
site_send = search (sendable, inside_send)
