use Rattle.std.proofs.Common.{false, sym, ◌∙◌}
use Rattle.np_syntax.specs.declared.event.Kind.TheVariants as kind
use Rattle.np_syntax.specs.declared.event.Made.TheVariants as made
use Rattle.np_syntax.proofs.Options.{none_there}
use Rattle.np_calculus.specs.Reductions.{act}
use Rattle.agent_pool.proofs.Acting.{row-met}
use Rattle.agent_pool.proofs.Missing.{no-form, open-missing}
use Rattle.agent_pool.proofs.Rows.{first-there, opens}
use Rattle.agent_pool.proofs.agent.Agent.after_open.Goals as goal

pub unreachable-requires : goal.unreachable-requires
unreachable-requires c = none_there _ c.requires (c.in_default.ensures.row kind.Open false 0 made.Nothing)

pub unreachable-requires-in_default-form : goal.unreachable-requires-in_default-form
unreachable-requires-in_default-form c =
    no-form c.in-Some.ensures kind.Open false made.Nothing (open-missing c.args.code.now.processes c.in-Some.node.now.form
    c.in_default-form.not-Open) c.requires

pub unreachable-requires-in_default-2 : goal.unreachable-requires-in_default-2
unfolding act
unreachable-requires-in_default-2 c =
    first-there _ _ (row-met c.in-Some.ensures kind.Open false made.Nothing _ c.in-Open.is c.requires) (sym c.in_default-2.is ∙ c.in_ok-chan.ensures)

pub returns : goal.returns
returns c = opens c.in-Some.ensures _ c.in-Open.is c.requires _ _ (sym c.in-Some-2.is ∙ c.in_ok-chan.ensures)
