-- What sites see of each other may be shared with another thread.
use denote.Param.Send.{IsSync, sendable}
use Rattle.std.proofs.Crossing.{crosses}
use Rattle.site_turn.specs.contracts.signs.Sign as sign
use Rattle.site_turn.specs.contracts.signs.Signs as signs

pub sign_sync : IsSync sign.the_row
sign_sync = search (sendable, crosses) depth 40

pub signs_sync : IsSync signs.the_row
signs_sync = search (sendable, crosses, sign_sync) depth 40
