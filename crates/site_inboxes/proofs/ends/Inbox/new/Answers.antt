use Rattle.np_inbox_rule.proofs.Steps.{begins}
use Rattle.site_inboxes.proofs.ends.Inbox.new.Goals as goal

pub ruled-requires-clause-rule : goal.ruled-requires-clause-rule
ruled-requires-clause-rule g c = begins g.I.Addressed.sender
