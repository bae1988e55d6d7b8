use Rattle.std.proofs.lemmas.Result.{IfOk-weaker}
use Rattle.np_histories.specs.Pasts.{IsPastOfLine}
use Rattle.np_histories.proofs.pasts.past_of.Goals as goal

pub returns : goal.returns
returns c =
    IfOk-weaker c.past.result _ (IsPastOfLine c.args.low.now c.args.events.now c.args.line)
    (λ led is. record { index = c.in-Some.index; print = c.in-Some.ensures; past = is })
    c.past.ensures
