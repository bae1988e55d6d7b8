use Rattle.std.proofs.Common.{refl}
use Rattle.crew_ends.proofs.quiet.is_quiet.Goals as goal

pub returns-then-not-is_resting-clause-no : goal.returns-then-not-is_resting-clause-no
returns-then-not-is_resting-clause-no g c = λ e quiet. c.if-not-is_resting.ensures.no refl (record { idle = quiet.idle; waits = quiet.waits; aside = quiet.aside })

pub returns-clause-yes : goal.returns-clause-yes
returns-clause-yes g c = λ e. let rests = c.if-not-is_resting.ensures.yes refl in record { idle = rests.idle; waits = rests.waits; aside = rests.aside; sent = c.all_sent.ensures.0 e }
