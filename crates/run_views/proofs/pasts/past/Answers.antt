use Rattle.std.proofs.Common.{IsSome, subst, sym}
use Rattle.std.proofs.lemmas.Result.{IfOk-weaker}
use Rattle.np_calculus.specs.Reductions.{run}
use Rattle.run_views.specs.Past.{IsPastOf}
use Rattle.run_views.specs.Pasts.{IsPastRun}
use Rattle.run_views.proofs.PrintPasts.{is-past-run, print-within}
use Rattle.run_views.proofs.pasts.past.Goals as goal

pub past_on-led-requires-clause-within : goal.past_on-led-requires-clause-within
past_on-led-requires-clause-within c = print-within c.args.events.now c.args.index c.requires.print

pub past_on-led-requires-clause-run : goal.past_on-led-requires-clause-run
past_on-led-requires-clause-run c = subst (λ s. IsSome (run s c.args.events.now)) (sym c.in-Ok.ensures) c.requires.run

pub returns-in-Ok : goal.returns-in-Ok
returns-in-Ok c =
    let low = c.args.low.now in
    let events = c.args.events.now in
    IfOk-weaker c.past_on-led.result _ (IsPastRun low events c.args.index)
    (λ past is. is-past-run low events past c.args.index c.requires.run c.requires.print (subst (λ s. IsPastOf s events c.args.index past) c.in-Ok.ensures is)) c.past_on-led.ensures
