use Rattle.np_inbox_rule.proofs.Steps.{take-learns, takes}
use Rattle.np_inbox_rule.proofs.laws.law_inbox_pops.Goals as goal

pub returns-clause-keeps : goal.returns-clause-keeps
returns-clause-keeps g c = takes g.I.Addressed.sender

pub returns-clause-learns : goal.returns-clause-learns
returns-clause-learns g c = take-learns g.I.Addressed.sender
