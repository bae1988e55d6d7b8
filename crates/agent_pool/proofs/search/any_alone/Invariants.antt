use Rattle.std.proofs.Common.{◌≡◌, None, length}
use Rattle.np_syntax.specs.declared.value.Name.{Name}
use Rattle.np_tables.specs.Mapped.{mapped}
use Rattle.np_tables.proofs.Walks.{Before}
use Rattle.agent_pool.specs.Pools.{seen_as}
use Rattle.agent_pool.specs.Readies.{alone_in}
use Rattle.agent_pool.proofs.search.any_alone.Given as goal

abbrev pub invariant-loop-at : goal.invariant-loop-at
invariant-loop-at l = (agent : Name) → Before (λ q. alone_in (length l.code.sites) (mapped (seen_as l.code.processes agent) l.atoms.items) q ≡ None) l.atoms.keys l.at
