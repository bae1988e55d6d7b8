use Rattle.std.proofs.Common.{arith}
use Rattle.std.proofs.lemmas.Grind.{common_steps}
use Rattle.site_links.proofs.tray_ends.hand_over.Goals as goal

pub returns-clause-out : goal.returns-clause-out
returns-clause-out g c = grind (arith, common_steps)

pub loop-item-preserved : goal.loop-item-preserved
loop-item-preserved g c = grind (arith, common_steps)

pub loop-item-init : goal.loop-item-init
loop-item-init g c = grind (arith, common_steps)

pub returns-clause-inside : goal.returns-clause-inside
returns-clause-inside g c = grind (arith, common_steps)

pub returns-clause-received : goal.returns-clause-received
returns-clause-received g c = grind (arith, common_steps)

pub returns-clause-sent : goal.returns-clause-sent
returns-clause-sent g c = grind (arith, common_steps)
