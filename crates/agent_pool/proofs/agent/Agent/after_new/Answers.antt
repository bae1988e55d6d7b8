use Rattle.std.proofs.Common.{false}
use Rattle.np_syntax.specs.declared.event.Kind.TheVariants as kind
use Rattle.np_syntax.specs.declared.event.Made.TheVariants as made
use Rattle.np_syntax.proofs.Options.{none_there}
use Rattle.agent_pool.proofs.Missing.{no-form, new-missing}
use Rattle.agent_pool.proofs.Rows.{goes-new}
use Rattle.agent_pool.proofs.agent.Agent.after_new.Goals as goal

pub unreachable-requires : goal.unreachable-requires
unreachable-requires c = none_there _ c.requires (c.in_default.ensures.row kind.New false 0 (made.One c.args.chan))

pub unreachable-requires-in_default-form : goal.unreachable-requires-in_default-form
unreachable-requires-in_default-form c =
    no-form c.in-Some.ensures kind.New false (made.One c.args.chan)
    (new-missing c.args.code.now.processes c.in-Some.node.now.form c.in_default-form.not-New) c.requires

pub returns : goal.returns
returns c = rw (c.in_ok-set.ensures.ok, c.in_ok-env.ensures) (goes-new c.in-Some.ensures _ _ _ _ c.in-New.is c.requires)
