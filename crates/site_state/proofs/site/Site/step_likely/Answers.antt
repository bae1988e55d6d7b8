use Rattle.site_state.proofs.Done.{done_from}
use Rattle.site_state.proofs.site.Site.step_likely.Goals as goal

pub returns-clause-ok : goal.returns-clause-ok
returns-clause-ok c =
    (c.is_spent.ensures.room c.if-is_spent.false, done_from c.args.code.now c.args.self.now c.next_likely.new.self c.do_event.new.self _ c.next_likely.ensures.stays c.in_ok-do_event.ensures.ok)
