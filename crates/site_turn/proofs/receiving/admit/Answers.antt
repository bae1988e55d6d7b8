use Rattle.std.proofs.Common.{arith}
use Rattle.std.proofs.lemmas.Grind.{common_steps}
use Rattle.site_turn.proofs.receiving.admit.Goals as goal

pub returns-in-Ok-clause-no : goal.returns-in-Ok-clause-no
returns-in-Ok-clause-no g c = grind (arith, common_steps)

pub returns-in-Err-clause-no : goal.returns-in-Err-clause-no
returns-in-Err-clause-no g c = grind (arith, common_steps)

pub returns-then-to_site-number-clause-no : goal.returns-then-to_site-number-clause-no
returns-then-to_site-number-clause-no g c = grind (arith, common_steps)

pub returns-in-Err-clause-yes : goal.returns-in-Err-clause-yes
returns-in-Err-clause-yes g c = grind (arith, common_steps)

pub returns-then-to_site-number-clause-yes : goal.returns-then-to_site-number-clause-yes
returns-then-to_site-number-clause-yes g c = grind (arith, common_steps)

pub returns-in-Ok-clause-yes : goal.returns-in-Ok-clause-yes
returns-in-Ok-clause-yes g c = grind (arith, common_steps)
