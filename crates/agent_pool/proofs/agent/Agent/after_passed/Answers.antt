use Rattle.std.proofs.Common.{false}
use Rattle.np_syntax.specs.declared.event.Kind.TheVariants as kind
use Rattle.np_syntax.specs.declared.event.Made.TheVariants as made
use Rattle.np_syntax.proofs.Options.{none_there}
use Rattle.agent_pool.proofs.Missing.{no-form, iflocal-missing}
use Rattle.agent_pool.proofs.Rows.{passes}
use Rattle.agent_pool.proofs.agent.Agent.after_passed.Goals as goal

pub unreachable-requires : goal.unreachable-requires
unreachable-requires c = none_there _ c.requires (c.in_default.ensures.row kind.Local false 0 made.Nothing)

pub unreachable-requires-in_default-form : goal.unreachable-requires-in_default-form
unreachable-requires-in_default-form c =
    no-form c.in-Some.ensures kind.Local false made.Nothing
    (iflocal-missing c.args.code.now.processes c.in-Some.node.now.form c.in_default-form.not-IfLocal) c.requires

pub returns : goal.returns
returns c = rw (c.in_ok-copy.ensures) (passes c.in-Some.ensures _ _ _ _ _ c.in-IfLocal.is c.requires)
