use Rattle.np_syntax.specs.declared.event.Kind.TheVariants as kind
use Rattle.site_state.proofs.Rows.{met}
use Rattle.site_state.proofs.within.go_on.Goals as goal

pub stop-requires : goal.stop-requires
stop-requires c = met c.args.code.now c.args.agent.now c.args.agent.now c.args.r kind.Stop c.in-Stop.is c.args.first c.requires.ready

pub fork-requires : goal.fork-requires
fork-requires c = met c.args.code.now c.args.agent.now c.args.agent.now c.args.r kind.Fork c.in-Fork.is c.args.first c.requires.ready

pub bind_new-requires : goal.bind_new-requires
bind_new-requires c = met c.args.code.now c.args.agent.now c.args.agent.now c.args.r kind.New c.in-New.is c.args.first c.requires.ready

pub bind_let-requires : goal.bind_let-requires
bind_let-requires c = met c.args.code.now c.args.agent.now c.args.agent.now c.args.r kind.Let c.in-Let.is c.args.first c.requires.ready

pub branch-agent-requires : goal.branch-agent-requires
branch-agent-requires c = met c.args.code.now c.args.agent.now c.args.agent.now c.args.r kind.If c.in-If.is c.args.first c.requires.ready

pub comm-requires : goal.comm-requires
comm-requires c = met c.args.code.now c.args.agent.now c.args.agent.now c.args.r kind.Comm c.in-Comm.is c.args.first c.requires.ready

pub rep-requires : goal.rep-requires
rep-requires c = met c.args.code.now c.args.agent.now c.args.agent.now c.args.r kind.Rep c.in-Rep.is c.args.first c.requires.ready

pub open_letter-requires : goal.open_letter-requires
open_letter-requires c = met c.args.code.now c.args.agent.now c.args.agent.now c.args.r kind.Open c.in-Open.is c.args.first c.requires.ready

pub look-requires : goal.look-requires
look-requires c = met c.args.code.now c.args.agent.now c.args.agent.now c.args.r kind.Lookup c.in-Lookup.is c.args.first c.requires.ready
