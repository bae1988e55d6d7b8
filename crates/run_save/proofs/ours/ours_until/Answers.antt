use Rattle.std.proofs.Common.{IfOk, IfSome, IsNone, ◌↔◌, subst}
use Rattle.std.proofs.lemmas.Result.{IfOk-weaker}
use Rattle.run_save.specs.Ours.{IsOursFrom, StopsBeingOurs}
use Rattle.run_save.proofs.RunLaws.{none-exactly, stops-until}
use Rattle.run_save.proofs.ours.ours_until.Goals as goal

pub returns-in-Ok-clause-ours : goal.returns-in-Ok-clause-ours
returns-in-Ok-clause-ours c =
    let events = c.args.events.now in
    subst (λ start. IfOk c.first_not_ours-until.result (λ until. IsNone until ↔ IsOursFrom start events)) c.in-Ok.ensures
    (IfOk-weaker c.first_not_ours-until.result _ _ (none-exactly c.in-Ok.reached events) c.first_not_ours-until.ensures)

pub returns-in-Ok-clause-until : goal.returns-in-Ok-clause-until
returns-in-Ok-clause-until c =
    let events = c.args.events.now in
    subst (λ start. IfOk c.first_not_ours-until.result (λ until. IfSome until (StopsBeingOurs start events))) c.in-Ok.ensures
    (IfOk-weaker c.first_not_ours-until.result _ _ (stops-until c.in-Ok.reached events) c.first_not_ours-until.ensures)
