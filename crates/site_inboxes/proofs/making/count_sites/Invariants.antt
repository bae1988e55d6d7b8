use Rattle.crossbeam_queue.specs.Passes.{view, IsSamePass}
use Rattle.site_inboxes.specs.Fresh.{IsUnusedView}
use Rattle.site_inboxes.proofs.making.count_sites.Given as goal

abbrev pub invariant-loop-site : goal.invariant-loop-site
invariant-loop-site g l = record {
  same : IsSamePass l.fn.pass l.pass;
  unused : IsUnusedView l.site 0 (view l.pass);
}
