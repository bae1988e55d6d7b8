use Rattle.crossbeam_queue.specs.Passes.{view}
use Rattle.np_inbox_rule.proofs.Steps.{sender-forks}
use Rattle.site_inboxes.specs.Views.{sites_in, made_in}
use Rattle.site_inboxes.proofs.Roles.{owner-is}
use Rattle.site_inboxes.proofs.ends.Inbox.outlet.Goals as goal

pub another-pass-requires-clause-rule : goal.another-pass-requires-clause-rule
another-pass-requires-clause-rule g c =
    let p = c.args.self.now.pass in let v = view p in
    sender-forks g.I.Addressed.sender p.id (sites_in v) (made_in v) v (owner-is v c.args.self.now.role) c.requires
