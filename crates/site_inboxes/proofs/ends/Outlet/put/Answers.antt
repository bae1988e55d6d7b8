use Rattle.std.proofs.Common.{arith}
use Rattle.crossbeam_queue.specs.Passes.{view, ruled_capacity}
use Rattle.np_inbox_rule.proofs.Steps.{puts, put-learns}
use Rattle.site_inboxes.specs.Views.{sites_in, number_in}
use Rattle.site_inboxes.proofs.Roles.{sender-is}
use Rattle.site_inboxes.proofs.ends.Outlet.put.Goals as goal

pub push_as-requires-clause-rule : goal.push_as-requires-clause-rule
push_as-requires-clause-rule g c =
    let o = c.args.self.now in let v = view o.pass in let s = g.I.Addressed.sender in
    let spaced = o.spaced in let some = c.if-self-eq0.false in
    (puts s (ruled_capacity c.deref.result.now) o.pass.id (sites_in v) (number_in v) v c.args.item (sender-is v o.role) c.requires (omega (arith, spaced, some)), put-learns s o.pass.id v)
