use Rattle.site_agents.proofs.deeds.Calls.{room_is_unseen}
use Rattle.site_agents.proofs.deeds.laws.law_room_unseen.Goals as goal

pub returns : goal.returns
returns c = room_is_unseen
