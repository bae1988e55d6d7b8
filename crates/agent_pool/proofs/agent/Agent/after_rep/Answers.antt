use Rattle.std.proofs.Common.{false, sym, ◌∙◌}
use Rattle.np_syntax.specs.declared.event.Kind.TheVariants as kind
use Rattle.np_syntax.specs.declared.event.Made.TheVariants as made
use Rattle.np_syntax.proofs.Options.{none_there}
use Rattle.agent_pool.proofs.Missing.{no-form, rep-missing}
use Rattle.agent_pool.proofs.Rows.{rep-takes, names-output, has-output, fits-output, takes-output}
use Rattle.agent_pool.proofs.agent.Agent.after_rep.Goals as goal

pub unreachable-requires : goal.unreachable-requires
unreachable-requires c = none_there _ c.requires (c.in_default.ensures.row kind.Rep false 0 made.Nothing)

pub unreachable-requires-in_default-form : goal.unreachable-requires-in_default-form
unreachable-requires-in_default-form c = no-form c.in-Some.ensures kind.Rep false made.Nothing (rep-missing c.args.code.now.processes c.in-Some.node.now.form c.in_default-form.not-Rep) c.requires

pub unreachable-requires-in_default-other : goal.unreachable-requires-in_default-other
unreachable-requires-in_default-other c = names-output (rep-takes c.in-Some.ensures c.in-Rep.is c.requires) (sym c.in_default-other.is)

pub unreachable-requires-in_default-get : goal.unreachable-requires-in_default-get
unreachable-requires-in_default-get c = has-output (rep-takes c.in-Some.ensures c.in-Rep.is c.requires) c.in-Some-other.is c.self.view_is c.in_default-get.ensures

pub unreachable-requires-in_default-2 : goal.unreachable-requires-in_default-2
unreachable-requires-in_default-2 c = fits-output (rep-takes c.in-Some.ensures c.in-Rep.is c.requires) c.in-Some-other.is c.self.view_is c.in-Some-get.ensures (sym c.in_default-2.is ∙ c.in_ok-env.ensures c.args.self.now.name)

pub returns : goal.returns
returns c = takes-output (rep-takes c.in-Some.ensures c.in-Rep.is c.requires) c.in-Some-other.is c.self.view_is c.in-Some-get.ensures (sym c.in-Some-2.is ∙ c.in_ok-env.ensures c.args.self.now.name)
