use Rattle.std.proofs.Common.{IsSome, subst, sym}
use Rattle.std.proofs.lemmas.Result.{IfOk-weaker}
use Rattle.np_calculus.specs.Reductions.{run}
use Rattle.np_calculus.specs.Starts.{start_high}
use Rattle.run_views.specs.Past.{IsPastOf}
use Rattle.run_views.proofs.PrintPasts.{print-within}
use Rattle.run_views.proofs.pasts.past_high.Goals as goal

pub past_on-led-requires-clause-within : goal.past_on-led-requires-clause-within
past_on-led-requires-clause-within c = print-within c.args.events.now c.args.index c.requires.print

pub past_on-led-requires-clause-run : goal.past_on-led-requires-clause-run
past_on-led-requires-clause-run c = subst (λ s. IsSome (run s c.args.events.now)) (sym c.in-Ok.ensures) c.requires.run

pub returns-in-Ok : goal.returns-in-Ok
returns-in-Ok c =
    let events = c.args.events.now in
    IfOk-weaker c.past_on-led.result _ (IsPastOf (start_high c.args.p.now) events c.args.index)
    (λ past is. subst (λ s. IsPastOf s events c.args.index past) c.in-Ok.ensures is) c.past_on-led.ensures
