use Rattle.std.proofs.Common.{refl, ap}
use Rattle.stamp_history.specs.Histories.{Recorded}
use Rattle.site_state.proofs.Sites.{stands_first}
use Rattle.site_state.proofs.site.Site.new.Goals as goal

pub invariant_of-result : goal.invariant_of-result
invariant_of-result c = (
  stands_first _ c.args.site c.args.budget refl c.requires.budget c.new-3.ensures.agents refl c.new-4.ensures c.in_ok-history.ensures,
  ap (λ (h : Recorded). h.budget) c.in_ok-history.ensures,
)
