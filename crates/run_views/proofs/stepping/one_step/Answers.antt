use Rattle.std.proofs.Common.{ap, ◌∙◌}
use Rattle.std.proofs.lemmas.Result.{IfOk-weaker}
use Rattle.np_calculus.specs.Starts.{start_high}
use Rattle.run_views.specs.OneStep.{one_step}
use Rattle.run_views.specs.Stepped.{IsStepped}
use Rattle.run_views.proofs.Steppings.{is-stepped}
use Rattle.run_views.proofs.stepping.one_step.Goals as goal

pub returns-in-Ok : goal.returns-in-Ok
returns-in-Ok c =
    let p = c.args.p.now in
    let events = c.args.high.now in
    let start = c.in-Ok.ensures ∙ ap start_high c.program.ensures.value in
    IfOk-weaker c.one_step_on-made.result _ (IsStepped p events) (λ made is. is-stepped p events made c.requires.free c.requires.run (is ∙ ap (λ s. one_step s events) start)) c.one_step_on-made.ensures
