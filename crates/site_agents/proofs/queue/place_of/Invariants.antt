use Rattle.std.proofs.Common.{◌≡◌, false}
use Rattle.np_tables.specs.Names.{same_name}
use Rattle.np_tables.proofs.Walks.{Before}
use Rattle.site_agents.proofs.queue.place_of.Given as goal

abbrev pub invariant-loop-at : goal.invariant-loop-at
invariant-loop-at l = Before (λ q. same_name l.name q ≡ false) l.names.items l.at
