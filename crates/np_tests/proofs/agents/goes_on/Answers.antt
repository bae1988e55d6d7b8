use Rattle.np_syntax.specs.declared.event.Kind.TheVariants as kind
use Rattle.np_tests.proofs.Waiters.{met}
use Rattle.np_tests.proofs.agents.goes_on.Goals as goal

pub fork-requires : goal.fork-requires
fork-requires c = met kind.Fork c.args.code.now c.args.agent.now c.args.ready c.args.mark c.in-Fork.is c.requires.ready

pub bind_new-requires : goal.bind_new-requires
bind_new-requires c = met kind.New c.args.code.now c.args.agent.now c.args.ready c.args.mark c.in-New.is c.requires.ready

pub rep-requires : goal.rep-requires
rep-requires c = met kind.Rep c.args.code.now c.args.agent.now c.args.ready c.args.mark c.in-Rep.is c.requires.ready

pub print-requires : goal.print-requires
print-requires c = met kind.Print c.args.code.now c.args.agent.now c.args.ready c.args.mark c.in-Print.is c.requires.ready
