use Rattle.std.proofs.Common.{ap, ◌∙◌}
use Rattle.np_calculus.specs.Reductions.{run}
use Rattle.simulate_laws.proofs.merging.law_merge.Goals as goal

pub follow-requires : goal.follow-requires
follow-requires c = (
  c.requires.run.0,
  ap (λ s. run s c.as_slice.result.now) c.in_ok-start.ensures ∙ ap (run _) (c.as_slice.ensures ∙ c.in_ok-events.ensures) ∙ c.requires.run.1,
)

pub returns-in_err-events-clause-well : goal.returns-in_err-events-clause-well
returns-in_err-events-clause-well c = λ f. (c.law_low_well_typed.ensures.along c.args.low.now f _ c.requires.run.0 c.requires.run.1).1

pub returns-in_err-start-clause-well : goal.returns-in_err-start-clause-well
returns-in_err-start-clause-well c = λ f. (c.law_low_well_typed.ensures.along c.args.low.now f _ c.requires.run.0 c.requires.run.1).1

pub returns-clause-well : goal.returns-clause-well
returns-clause-well c = λ f. (c.law_low_well_typed.ensures.along c.args.low.now f _ c.requires.run.0 c.requires.run.1).1
