use Rattle.np_inbox_rule.proofs.Steps.{look-learns}
use Rattle.np_inbox_rule.proofs.laws.law_inbox_looks.Goals as goal

pub returns : goal.returns
returns g c = look-learns g.I.Addressed.sender
