use Rattle.std.proofs.Common.{true, sym, ◌∙◌}
use Rattle.np_syntax.specs.declared.event.Kind.TheVariants as kind
use Rattle.np_syntax.specs.declared.event.Made.TheVariants as made
use Rattle.np_syntax.proofs.Options.{none_there}
use Rattle.np_calculus.specs.Reductions.{act}
use Rattle.agent_pool.proofs.Acting.{row-met}
use Rattle.agent_pool.proofs.Missing.{no-form, iflocal-missing}
use Rattle.agent_pool.proofs.Rows.{first-there, next-there, tells}
use Rattle.agent_pool.proofs.agent.Agent.after_told.Goals as goal

pub unreachable-requires : goal.unreachable-requires
unreachable-requires c = none_there _ c.requires (c.in_default.ensures.row kind.Local true 0 (made.One c.args.mark))

pub unreachable-requires-in_default-form : goal.unreachable-requires-in_default-form
unreachable-requires-in_default-form c =
    no-form c.in-Some.ensures kind.Local true (made.One c.args.mark)
    (iflocal-missing c.args.code.now.processes c.in-Some.node.now.form c.in_default-form.not-IfLocal) c.requires

pub unreachable-requires-in_default-agent_of : goal.unreachable-requires-in_default-agent_of
unfolding act
unreachable-requires-in_default-agent_of c =
    first-there _ _ (row-met c.in-Some.ensures kind.Local true (made.One c.args.mark) _ c.in-IfLocal.is c.requires) c.in_default-agent_of.ensures

pub unreachable-requires-in_default-chan_of : goal.unreachable-requires-in_default-chan_of
unfolding act
unreachable-requires-in_default-chan_of c =
    first-there _ _ (next-there _ _ _ c.in-Some-agent_of.ensures
    (row-met c.in-Some.ensures kind.Local true (made.One c.args.mark) _ c.in-IfLocal.is c.requires)) c.in_default-chan_of.ensures

pub unreachable-requires-in_default-2 : goal.unreachable-requires-in_default-2
unfolding act
unreachable-requires-in_default-2 c =
    first-there _ _ (next-there _ _ _ c.in-Some-chan_of.ensures
    (next-there _ _ _ c.in-Some-agent_of.ensures (row-met c.in-Some.ensures kind.Local true (made.One c.args.mark) _ c.in-IfLocal.is c.requires)))
    (sym c.in_default-2.is ∙ c.in_ok-value.ensures)

pub returns : goal.returns
returns c =
    rw (c.in_ok-copy.ensures) (tells c.in-Some.ensures c.args.mark _ _ _ _ _ c.in-IfLocal.is c.requires _ c.in-Some-agent_of.ensures _
    c.in-Some-chan_of.ensures _ (sym c.in-Some-2.is ∙ c.in_ok-value.ensures))
