use Rattle.np_tables.proofs.Walks.{Before}
use Rattle.agent_pool.specs.Resting.{SettledAt}
use Rattle.agent_pool.proofs.resting.told_idle.Given as goal

abbrev pub invariant-loop-at : goal.invariant-loop-at
invariant-loop-at l = Before (SettledAt l.code.processes l.atoms.items) l.atoms.keys l.at
