use Rattle.np_tables.proofs.Walks.{Before}
use Rattle.agent_pool.specs.Idle.{IsStill}
use Rattle.agent_pool.proofs.idle.is_idle.Given as goal

abbrev pub invariant-loop-at : goal.invariant-loop-at
invariant-loop-at l = Before (IsStill l.code.processes l.atoms.items) l.atoms.keys l.at
