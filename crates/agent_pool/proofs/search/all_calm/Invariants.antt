use Rattle.np_tables.proofs.Walks.{Before}
use Rattle.agent_pool.specs.Calm.{CalmAt}
use Rattle.agent_pool.proofs.search.all_calm.Given as goal

abbrev pub invariant-loop-at : goal.invariant-loop-at
invariant-loop-at l = Before (CalmAt l.code l.atoms.items) l.atoms.keys l.at
