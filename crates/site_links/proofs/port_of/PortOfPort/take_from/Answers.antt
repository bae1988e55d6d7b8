use Rattle.site_links.proofs.Looks.{told_after}
use Rattle.site_links.proofs.port_of.PortOfPort.take_from.Goals as goal

pub returns-in-Some : goal.returns-in-Some
returns-in-Some g c =
    let h = c.in-Some.ensures in let t = told_after g.E.Ends c.take_at.result h.1 h.0 h.2 c.take_at.ensures in
    record { keeps = t.0; putting = t.1; taken = t.2 }

pub returns-in-None : goal.returns-in-None
returns-in-None g c = let h = c.in-None.ensures in record { keeps = h.keeps; putting = λ k. (h.sent_same k, h.room_same k); taken = h.got_same }
