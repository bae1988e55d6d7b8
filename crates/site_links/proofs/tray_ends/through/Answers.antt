use Rattle.std.proofs.Common.{arith}
use Rattle.std.proofs.lemmas.Grind.{common_steps}
use Rattle.site_links.proofs.tray_ends.through.Goals as goal

pub returns-clause-same : goal.returns-clause-same
returns-clause-same g c = grind (arith, common_steps)

pub returns-clause-sent : goal.returns-clause-sent
returns-clause-sent g c = grind (arith, common_steps)

pub returns-clause-even : goal.returns-clause-even
returns-clause-even g c = grind (arith, common_steps)

pub pop_known-requires : goal.pop_known-requires
pop_known-requires g c = grind (arith, common_steps)
