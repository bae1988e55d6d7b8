use Rattle.std.proofs.Common.{false}
use Rattle.np_syntax.specs.declared.event.Kind.TheVariants as kind
use Rattle.np_syntax.specs.declared.event.Made.TheVariants as made
use Rattle.np_syntax.proofs.Options.{none_there}
use Rattle.agent_pool.proofs.Missing.{no-form, par-missing}
use Rattle.agent_pool.proofs.Rows.{forks}
use Rattle.agent_pool.proofs.agent.Agent.after_fork.Goals as goal

pub unreachable-requires : goal.unreachable-requires
unreachable-requires c = none_there _ c.requires (c.in_default.ensures.row kind.Fork false 0 (made.One c.args.mark))

pub unreachable-requires-in_default-form : goal.unreachable-requires-in_default-form
unreachable-requires-in_default-form c =
    no-form c.in-Some.ensures kind.Fork false (made.One c.args.mark)
    (par-missing c.args.code.now.processes c.in-Some.node.now.form c.in_default-form.not-Par) c.requires

pub returns : goal.returns
returns c = rw (c.in_ok-own.ensures, c.in_ok-other.ensures) (forks c.in-Some.ensures _ _ _ c.in-Par.is c.requires)
