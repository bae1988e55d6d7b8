use Rattle.np_syntax.specs.declared.event.Kind.TheVariants as kind
use Rattle.np_syntax.specs.declared.event.Made.TheVariants as made
use Rattle.agent_pool.proofs.agent.Agent.branch.Goals as goal

pub returns-clause-row : goal.returns-clause-row
returns-clause-row c = c.reduce.ensures.row kind.If c.args.r made.Nothing c.after_if-held.ensures
