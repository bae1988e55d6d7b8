use Rattle.crew_ends.proofs.First.{has_none}
use Rattle.crew_ends.proofs.starting.settle_if.Goals as goal

pub returns-then-here : goal.returns-then-here
returns-then-here c = rw c.if-here.true c.settle_first.ensures

pub returns : goal.returns
returns c = has_none _ _ _ _ _ _ c.if-here.false
