use Rattle.std.proofs.Common.{false, ap, ◌∙◌}
use Rattle.np_syntax.specs.declared.event.Kind.TheVariants as kind
use Rattle.np_syntax.specs.declared.event.Made.TheVariants as made
use Rattle.np_syntax.proofs.Options.{none_there}
use Rattle.np_calculus.specs.Reductions.{act, site_in}
use Rattle.agent_pool.proofs.Acting.{row-met}
use Rattle.agent_pool.proofs.Missing.{no-form, migrate-missing}
use Rattle.agent_pool.proofs.Rows.{first-there, departs}
use Rattle.agent_pool.proofs.agent.Agent.after_depart.Goals as goal

pub unreachable-requires : goal.unreachable-requires
unreachable-requires c = none_there _ c.requires (c.in_default.ensures.row kind.Depart false 0 made.Nothing)

pub unreachable-requires-in_default-form : goal.unreachable-requires-in_default-form
unreachable-requires-in_default-form c =
    no-form c.in-Some.ensures kind.Depart false made.Nothing
    (migrate-missing c.args.code.now.processes c.in-Some.node.now.form c.in_default-form.not-Migrate) c.requires

pub unreachable-requires-in_default-site_in : goal.unreachable-requires-in_default-site_in
unfolding act
unreachable-requires-in_default-site_in c =
    first-there _ _ (row-met c.in-Some.ensures kind.Depart false made.Nothing _ c.in-Migrate.is c.requires)
    (c.in_default-site_in.ensures ∙ ap (λ n. site_in n c.in-Migrate.site c.in-Some.frame.now) c.sites.ensures)

pub returns : goal.returns
returns c =
    rw (c.in_ok-copy.ensures) (departs c.in-Some.ensures _ _ c.in-Migrate.is c.requires _
    (c.in-Some-site_in.ensures ∙ ap (λ n. site_in n c.in-Migrate.site c.in-Some.frame.now) c.sites.ensures))
