use Rattle.std.proofs.Common.{false, sym, ◌∙◌}
use Rattle.np_syntax.specs.declared.event.Kind.TheVariants as kind
use Rattle.np_syntax.specs.declared.event.Made.TheVariants as made
use Rattle.np_syntax.proofs.Options.{none_there}
use Rattle.np_calculus.specs.Reductions.{act}
use Rattle.agent_pool.proofs.Acting.{row-met}
use Rattle.agent_pool.proofs.Missing.{no-form, let-missing}
use Rattle.agent_pool.proofs.Rows.{first-there, next-there, goes-let}
use Rattle.agent_pool.proofs.agent.Agent.after_let.Goals as goal

pub unreachable-requires : goal.unreachable-requires
unreachable-requires c = none_there _ c.requires (c.in_default.ensures.row kind.Let false 0 made.Nothing)

pub unreachable-requires-in_default-form : goal.unreachable-requires-in_default-form
unreachable-requires-in_default-form c =
    no-form c.in-Some.ensures kind.Let false made.Nothing (let-missing c.args.code.now.processes c.in-Some.node.now.form c.in_default-form.not-Let)
    c.requires

pub unreachable-requires-in_default-2 : goal.unreachable-requires-in_default-2
unfolding act
unreachable-requires-in_default-2 c =
    first-there _ _ (row-met c.in-Some.ensures kind.Let false made.Nothing _ c.in-Let.is c.requires) (sym c.in_default-2.is ∙ c.in_ok-value.ensures)

pub unreachable-requires-in_default-3 : goal.unreachable-requires-in_default-3
unfolding act
unreachable-requires-in_default-3 c =
    first-there _ _ (next-there _ _ _ (sym c.in-Some-2.is ∙ c.in_ok-value.ensures)
    (row-met c.in-Some.ensures kind.Let false made.Nothing _ c.in-Let.is c.requires)) (sym c.in_default-3.is ∙ c.in_ok-env.ensures)

pub returns : goal.returns
returns c =
    goes-let c.in-Some.ensures _ _ _ c.in-Let.is c.requires _ (sym c.in-Some-2.is ∙ c.in_ok-value.ensures) _
    (sym c.in-Some-3.is ∙ c.in_ok-env.ensures)
