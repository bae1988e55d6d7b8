use Rattle.std.proofs.Common.{arith}
use Rattle.site_agents.proofs.Lines.{not_listed}
use Rattle.site_agents.proofs.queue.place_of.Goals as goal

pub returns : goal.returns
returns c = not_listed c.args.names.now.items c.args.name (λ k d l. c.loop-at.invariant k d (omega (arith, l, c.loop-at-test.false, c.len-at-end.ensures)))
