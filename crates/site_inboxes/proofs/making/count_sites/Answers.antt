use Rattle.std.proofs.Common.{refl, ◌∙◌}
use Rattle.crossbeam_queue.specs.Passes.{view}
use Rattle.np_inbox_rule.proofs.Steps.{site-forks}
use Rattle.site_inboxes.proofs.Roles.{owner-made}
use Rattle.site_inboxes.proofs.NewViews.{unused-first, unused-counted}
use Rattle.site_inboxes.proofs.making.count_sites.Goals as goal

pub loop-site-init : goal.loop-site-init
loop-site-init g c = record { same = (refl, refl, refl); unused = unused-first (view c.args.pass.now) c.requires.1 }

pub another-spent-requires-clause-rule : goal.another-spent-requires-clause-rule
another-spent-requires-clause-rule g c =
    let p = c.loop-site.pass in let v = view p in let h = c.loop-site.invariant.unused in
    site-forks g.I.Addressed.sender p.id c.loop-site.site v (owner-made v c.loop-site.site 0 h.role h.sites_are h.made_are)

pub loop-site-preserved : goal.loop-site-preserved
loop-site-preserved g c =
    let h = c.loop-site.invariant in let queue = c.another-spent.ensures.queue.0 in let rule = c.another-spent.ensures.rule in
    record {
      same = (queue.0 ∙ h.same.0, queue.1 ∙ h.same.1, queue.2 ∙ h.same.2);
      unused = unused-counted c.loop-site.site 0 (view c.loop-site.pass) (view c.another-spent.new.pass) h.unused rule.0;
    }
