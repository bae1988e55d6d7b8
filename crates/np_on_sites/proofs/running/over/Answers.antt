use Rattle.std.proofs.Common.{◌∙◌, IfSome, subst}
use Rattle.site_crew.specs.Crews.{HasEnded}
use Rattle.np_on_sites.proofs.Kept.{ended_run}
use Rattle.np_on_sites.proofs.running.over.Goals as goal

pub returns-in-Ok-clause-run : goal.returns-in-Ok-clause-run
returns-in-Ok-clause-run g c =
    let made = c.in_ok-crew.ensures.crew in
    let on = c.begin.ensures in
    let ended : HasEnded c.begin.new.crew c.in-Ok-Some.end = subst (λ m. IfSome m (HasEnded c.begin.new.crew)) c.in-Ok-Some.field-0-is c.in-Ok-Some.ensures.ended in
    rw (c.in-Ok.ensures.histories, c.in-Ok.ensures.end)
    (ended_run c.args.low.now c.args.budget c.args.code c.begin.new.crew c.in-Ok-Some.end c.requires.code (on.code ∙ made.0) (on.budget ∙ made.1) ended)
