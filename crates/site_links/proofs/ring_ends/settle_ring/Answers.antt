use Rattle.std.proofs.Common.{arith}
use Rattle.std.proofs.lemmas.Grind.{common_steps}
use Rattle.site_links.proofs.ring_ends.settle_ring.Goals as goal

pub returns-then-waiting-clause-known : goal.returns-then-waiting-clause-known
returns-then-waiting-clause-known g c = grind (arith, common_steps)
