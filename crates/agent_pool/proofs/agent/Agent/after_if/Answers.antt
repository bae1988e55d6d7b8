use Rattle.std.proofs.Common.{◌≡◌, ℕ, false, cond, sym, ap, ◌∙◌}
use Rattle.np_syntax.specs.declared.event.Kind.TheVariants as kind
use Rattle.np_syntax.specs.declared.event.Made.TheVariants as made
use Rattle.np_syntax.proofs.Options.{none_there}
use Rattle.np_calculus.specs.Reductions.{act}
use Rattle.agent_pool.proofs.Acting.{row-met}
use Rattle.agent_pool.proofs.Missing.{no-form, if-missing}
use Rattle.agent_pool.proofs.Rows.{first-there, goes-if}
use Rattle.agent_pool.proofs.agent.Agent.after_if.Goals as goal
use Rattle.agent_pool.proofs.agent.Agent.after_if.Goals.{then-truth, else-truth}

pub unreachable-requires : goal.unreachable-requires
unreachable-requires c = none_there _ c.requires (c.in_default.ensures.row kind.If false 0 made.Nothing)

pub unreachable-requires-in_default-form : goal.unreachable-requires-in_default-form
unreachable-requires-in_default-form c =
    no-form c.in-Some.ensures kind.If false made.Nothing (if-missing c.args.code.now.processes c.in-Some.node.now.form c.in_default-form.not-If)
    c.requires

pub unreachable-requires-in_default-2 : goal.unreachable-requires-in_default-2
unfolding act
unreachable-requires-in_default-2 c =
    first-there _ _ (row-met c.in-Some.ensures kind.If false made.Nothing _ c.in-If.is c.requires) (sym c.in_default-2.is ∙ c.in_ok-truth.ensures)

pub returns : goal.returns
returns c =
    let either : ℕ = cond c.in-Some-2.truth c.in-If.met c.in-If.unmet in
    let next : c.if-truth.next ≡ either = elim c.if-truth.branch [
      | then-truth w ↦ w.next-is ∙ ap (λ t. cond t c.in-If.met c.in-If.unmet) (sym w.if-truth.true)
      | else-truth w ↦ w.next-is ∙ ap (λ t. cond t c.in-If.met c.in-If.unmet) (sym w.if-truth.false)
    ] in
    rw (c.in_ok-copy.ensures, next) (goes-if c.in-Some.ensures _ _ _ c.in-If.is c.requires _ (sym c.in-Some-2.is ∙ c.in_ok-truth.ensures))
