use Rattle.std.proofs.Common.{rules}
use Rattle.np_sources.proofs.Kept.{makes_many}
use Rattle.np_sources.proofs.sites.lowered_within.Goals as goal

pub returns-then-are_many-clause-refused : goal.returns-then-are_many-clause-refused
returns-then-are_many-clause-refused c = λ _. makes_many c.args.infrastructure c.args.budget c.args.checked.now c.in_ok-made.made.low c.in_ok-made.ensures.made (search rules)
