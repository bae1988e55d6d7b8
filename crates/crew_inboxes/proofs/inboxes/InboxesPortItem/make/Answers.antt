use Rattle.std.proofs.Common.{ℕ, subst}
use Rattle.std.proofs.lemmas.Result.{IfOk-weaker}
use Rattle.crew_inboxes.specs.Seats.{Seated}
use Rattle.crew_inboxes.proofs.Sitting.{full_from_seated, unused_from_seated}
use Rattle.crew_inboxes.proofs.inboxes.InboxesPortItem.make.Goals as goal

pub returns-clause-ports : goal.returns-clause-ports
returns-clause-ports g c =
    let xs = c.in_ok-seats.seats.items in let woven = c.in_ok-seats.ensures in
    IfOk-weaker c.take_seats.result _ _ (λ ports h. full_from_seated c.args.sites xs woven ports.items (subst (λ (n : ℕ). Seated n xs ports.items) woven.count h)) c.take_seats.ensures

pub returns-clause-unused : goal.returns-clause-unused
returns-clause-unused g c =
    let xs = c.in_ok-seats.seats.items in let woven = c.in_ok-seats.ensures in
    IfOk-weaker c.take_seats.result _ _ (λ ports h. unused_from_seated c.args.sites xs woven ports.items (subst (λ (n : ℕ). Seated n xs ports.items) woven.count h)) c.take_seats.ensures
