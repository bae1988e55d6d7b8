use Rattle.agent_index.proofs.InSteps.{nothing-kept}
use Rattle.agent_index.proofs.index.Index.new.Goals as goal

pub invariant_of-result : goal.invariant_of-result
invariant_of-result g c = rw (c.in-Ok.ensures.ok, c.new.ensures, c.new-2.ensures) (nothing-kept g.row.V.Denot)
