use Rattle.std.proofs.Common.{sym, ap, ◌∙◌}
use Rattle.std.proofs.lemmas.Result.{IfOk-weaker}
use Rattle.np_calculus.specs.Reductions.{run}
use Rattle.np_calculus.specs.Starts.{start_high}
use Rattle.simulate_laws.specs.Cached.{ShowsCached}
use Rattle.simulate_laws.proofs.Cached.{are-cached-run, shows-cached}
use Rattle.simulate_laws.proofs.caching.law_cached.Goals as goal

pub follow-requires : goal.follow-requires
follow-requires c =
    let r = are-cached-run c.args.program.now c.program.ensures.accepted c.args.events.now c.requires.run in
    (r.0, ap (λ s. run s c.as_slice.result.now) (c.in_ok-start.ensures ∙ ap start_high c.program.ensures.value) ∙ ap (run (start_high c.args.program.now)) (c.as_slice.ensures ∙ c.in_ok-lifted.ensures) ∙ r.1)

pub returns : goal.returns
returns c =
    IfOk-weaker c.follow.result _ (ShowsCached c.args.program.now c.args.events.now)
    (λ high leads. shows-cached c.args.program.now c.program.ensures.accepted c.args.events.now c.requires.run high
    (sym (ap (λ s. run s c.as_slice.result.now) (c.in_ok-start.ensures ∙ ap start_high c.program.ensures.value) ∙ ap (run (start_high c.args.program.now)) (c.as_slice.ensures ∙ c.in_ok-lifted.ensures)) ∙ leads))
    c.follow.ensures
