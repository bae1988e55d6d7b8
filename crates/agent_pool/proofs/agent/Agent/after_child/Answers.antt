use Rattle.std.proofs.Common.{false}
use Rattle.np_syntax.specs.declared.event.Kind.TheVariants as kind
use Rattle.np_syntax.specs.declared.event.Made.TheVariants as made
use Rattle.np_syntax.proofs.Options.{none_there}
use Rattle.agent_pool.proofs.Missing.{no-form, agent-missing}
use Rattle.agent_pool.proofs.Rows.{splits}
use Rattle.agent_pool.proofs.agent.Agent.after_child.Goals as goal

pub unreachable-requires : goal.unreachable-requires
unreachable-requires c = none_there _ c.requires (c.in_default.ensures.row kind.Agent false 0 (made.Two c.args.agent c.args.mark))

pub unreachable-requires-in_default-form : goal.unreachable-requires-in_default-form
unreachable-requires-in_default-form c =
    no-form c.in-Some.ensures kind.Agent false (made.Two c.args.agent c.args.mark)
    (agent-missing c.args.code.now.processes c.in-Some.node.now.form c.in_default-form.not-Agent) c.requires

pub returns : goal.returns
returns c = rw (c.in_ok-own.ensures, c.in_ok-set.ensures.ok, c.in_ok-env.ensures) (splits c.in-Some.ensures _ _ _ _ _ c.in-Agent.is c.requires)
