use Rattle.crossbeam_queue.specs.Passes.{view}
use Rattle.np_inbox_rule.proofs.Steps.{takes, take-learns}
use Rattle.site_inboxes.specs.Views.{sites_in, made_in}
use Rattle.site_inboxes.proofs.Roles.{owner-is}
use Rattle.site_inboxes.proofs.Waiting.{taken-from}
use Rattle.site_inboxes.proofs.ends.Inbox.take.Goals as goal

pub pop_as-requires-clause-rule : goal.pop_as-requires-clause-rule
pop_as-requires-clause-rule g c =
    let p = c.args.self.now.pass in let v = view p in let s = g.I.Addressed.sender in
    let is = owner-is v c.args.self.now.role in
    (takes s p.id (sites_in v) (made_in v) v is, take-learns s p.id (sites_in v) (made_in v) v is)

pub returns-in-Some-clause-taken : goal.returns-in-Some-clause-taken
returns-in-Some-clause-taken g c =
    taken-from g.I.Addressed.sender (view c.args.self.now.pass) (view c.pop_as.new.pass) c.in-Some.item c.args.self.now.role c.in-Some.ensures.rule
