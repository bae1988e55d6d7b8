use Rattle.std.proofs.Common.{◌≡◌, false}
use Rattle.std.specs.FinMap as map
use Rattle.np_tables.proofs.Walks.{Before}
use Rattle.agent_pool.specs.Idle.{waits_in, is_output}
use Rattle.agent_pool.proofs.idle.any_output.Given as goal

abbrev pub invariant-loop-at : goal.invariant-loop-at
invariant-loop-at l = Before (λ q. is_output (waits_in l.code.processes (map.get l.atoms.items q)) l.chan ≡ false) l.atoms.keys l.at
