use Rattle.agent_index.proofs.Withouts.{Passed}
use Rattle.agent_index.proofs.marks.position.Given as goal

abbrev pub invariant-loop-at : goal.invariant-loop-at
invariant-loop-at l = Passed l.queue.items l.mark l.at
