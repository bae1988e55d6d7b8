use Rattle.std.proofs.lemmas.Result.{IfOk-weaker}
use Rattle.simulate_laws.specs.Lifted.{ShowsRest}
use Rattle.simulate_laws.proofs.Lifted.{shows-rest}
use Rattle.simulate_laws.proofs.resting.law_rest.Goals as goal

pub returns : goal.returns
returns c =
    IfOk-weaker c.law_lift.result _ (ShowsRest c.args.program.now c.args.events.now) (λ high shows. shows-rest c.args.program.now c.program.ensures.accepted c.args.events.now c.requires.run high shows)
    c.law_lift.ensures
