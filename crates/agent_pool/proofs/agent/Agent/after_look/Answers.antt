use Rattle.std.proofs.Common.{◌≡◌, None, Some, false, sym, ap, subst, ◌∙◌}
use Rattle.std.specs.Prelude.{IfNone}
use Rattle.np_syntax.specs.declared.event.Kind.TheVariants as kind
use Rattle.np_syntax.specs.declared.event.Made.TheVariants as made
use Rattle.np_syntax.proofs.Options.{none_there}
use Rattle.np_eval.specs.Eval.{places_of}
use Rattle.np_calculus.specs.Reductions.{act}
use Rattle.agent_pool.proofs.Acting.{row-met}
use Rattle.agent_pool.proofs.Missing.{no-form, lookup-missing}
use Rattle.agent_pool.proofs.Rows.{first-there, next-there, finds, misses}
use Rattle.agent_pool.proofs.agent.Agent.after_look.Goals as goal

pub unreachable-requires : goal.unreachable-requires
unreachable-requires c = none_there _ c.requires (c.in_default.ensures.row kind.Lookup false 0 made.Nothing)

pub unreachable-requires-in_default-form : goal.unreachable-requires-in_default-form
unreachable-requires-in_default-form c =
    no-form c.in-Some.ensures kind.Lookup false made.Nothing
    (lookup-missing c.args.code.now.processes c.in-Some.node.now.form c.in_default-form.not-Lookup) c.requires

pub unreachable-requires-in_default-agent_of : goal.unreachable-requires-in_default-agent_of
unfolding act
unreachable-requires-in_default-agent_of c =
    first-there _ _ (row-met c.in-Some.ensures kind.Lookup false made.Nothing _ c.in-Lookup.is c.requires) c.in_default-agent_of.ensures

pub unreachable-requires-in_default-2 : goal.unreachable-requires-in_default-2
unfolding act
unreachable-requires-in_default-2 c =
    first-there _ _ (next-there _ _ _ c.in-Some-agent_of.ensures
    (row-met c.in-Some.ensures kind.Lookup false made.Nothing _ c.in-Lookup.is c.requires))
    (sym (subst (λ o. IfNone o (places_of c.in-Lookup.among c.in-Some.frame.now ≡ None)) c.in_default-2.is c.in_ok-found.ensures.none))

pub returns-in_default-found : goal.returns-in_default-found
returns-in_default-found c =
    rw (c.in_ok-env.ensures) (misses c.in-Some.ensures _ _ _ _ _ c.in-Lookup.is c.requires _ c.in-Some-agent_of.ensures
    (ap Some (sym c.in_default-found.is) ∙ sym c.in-Some-2.is ∙ c.in_ok-found.ensures.found))

pub returns : goal.returns
returns c =
    rw (c.in_ok-set.ensures.ok, c.in_ok-env.ensures) (finds c.in-Some.ensures _ _ _ _ _ c.in-Lookup.is c.requires _ c.in-Some-agent_of.ensures _
    (ap Some (sym c.in-Some-found.is) ∙ sym c.in-Some-2.is ∙ c.in_ok-found.ensures.found))
