use Rattle.np_inbox_rule.proofs.Steps.{put-learns, puts}
use Rattle.np_inbox_rule.proofs.laws.law_inbox_pushes.Goals as goal

pub returns-clause-keeps : goal.returns-clause-keeps
returns-clause-keeps g c = puts g.I.Addressed.sender

pub returns-clause-learns : goal.returns-clause-learns
returns-clause-learns g c = put-learns g.I.Addressed.sender
