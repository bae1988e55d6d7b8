use Rattle.crew_inboxes.proofs.Taking.{told_less}
use Rattle.crew_inboxes.proofs.inboxes.InboxesPortItem.take_from.Goals as goal

pub returns : goal.returns
returns g c = let e = c.take.ensures in record { keeps = e.keeps; putting = e.putting; taken = told_less _ _ _ c.take.result e.taken }
