use Rattle.np_inbox_rule.proofs.Steps.{begins}
use Rattle.np_inbox_rule.proofs.laws.law_inbox_begins.Goals as goal

pub returns : goal.returns
returns g c = begins g.I.Addressed.sender
