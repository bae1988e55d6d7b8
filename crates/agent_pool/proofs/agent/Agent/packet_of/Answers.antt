use Rattle.std.proofs.Common.{false, sym, ap, ◌∙◌}
use Rattle.np_syntax.specs.declared.event.Kind.TheVariants as kind
use Rattle.np_syntax.specs.declared.event.Made.TheVariants as made
use Rattle.np_syntax.proofs.Options.{none_there}
use Rattle.np_calculus.specs.Reductions.{act, site_in}
use Rattle.agent_pool.proofs.Acting.{row-met}
use Rattle.agent_pool.proofs.Missing.{no-form, send-missing}
use Rattle.agent_pool.proofs.Rows.{first-there, next-there, becomes-packet}
use Rattle.agent_pool.proofs.agent.Agent.packet_of.Goals as goal

pub unreachable-requires : goal.unreachable-requires
unreachable-requires c = none_there _ c.requires (c.in_default.ensures.row kind.Send false 0 made.Nothing)

pub unreachable-requires-in_default-form : goal.unreachable-requires-in_default-form
unreachable-requires-in_default-form c =
    no-form c.in-Some.ensures kind.Send false made.Nothing (send-missing c.args.code.now.processes c.in-Some.node.now.form
    c.in_default-form.not-Send) c.requires

pub unreachable-requires-in_default-agent_of : goal.unreachable-requires-in_default-agent_of
unfolding act
unreachable-requires-in_default-agent_of c =
    first-there _ _ (row-met c.in-Some.ensures kind.Send false made.Nothing _ c.in-Send.is c.requires) c.in_default-agent_of.ensures

pub unreachable-requires-in_default-site_in : goal.unreachable-requires-in_default-site_in
unfolding act
unreachable-requires-in_default-site_in c =
    first-there _ _ (next-there _ _ _ c.in-Some-agent_of.ensures (row-met c.in-Some.ensures kind.Send false made.Nothing _ c.in-Send.is c.requires))
    (c.in_default-site_in.ensures ∙ ap (λ n. site_in n c.in-Send.site c.in-Some.frame.now) c.sites.ensures)

pub unreachable-requires-in_default-chan_of : goal.unreachable-requires-in_default-chan_of
unfolding act
unreachable-requires-in_default-chan_of c =
    first-there _ _ (next-there _ _ _ (c.in-Some-site_in.ensures ∙ ap (λ n. site_in n c.in-Send.site c.in-Some.frame.now) c.sites.ensures)
    (next-there _ _ _ c.in-Some-agent_of.ensures (row-met c.in-Some.ensures kind.Send false made.Nothing _ c.in-Send.is c.requires)))
    c.in_default-chan_of.ensures

pub unreachable-requires-in_default-2 : goal.unreachable-requires-in_default-2
unfolding act
unreachable-requires-in_default-2 c =
    first-there _ _ (next-there _ _ _ c.in-Some-chan_of.ensures
    (next-there _ _ _ (c.in-Some-site_in.ensures ∙ ap (λ n. site_in n c.in-Send.site c.in-Some.frame.now) c.sites.ensures)
    (next-there _ _ _ c.in-Some-agent_of.ensures (row-met c.in-Some.ensures kind.Send false made.Nothing _ c.in-Send.is c.requires))))
    (sym c.in_default-2.is ∙ c.in_ok-value.ensures)

pub returns : goal.returns
returns c =
    becomes-packet c.in-Some.ensures _ _ _ _ c.in-Send.is c.requires _ c.in-Some-agent_of.ensures _
    (c.in-Some-site_in.ensures ∙ ap (λ n. site_in n c.in-Send.site c.in-Some.frame.now) c.sites.ensures) _ c.in-Some-chan_of.ensures _
    (sym c.in-Some-2.is ∙ c.in_ok-value.ensures)
