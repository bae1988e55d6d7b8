use Rattle.std.proofs.Common.{refl}
use Rattle.run_merge.proofs.Values.{one_each}
use Rattle.run_merge.proofs.saying.add_values.Goals as goal

pub loop-stamped-init : goal.loop-stamped-init
loop-stamped-init c =
    rw (c.said-values.ensures.said, c.events-stamped-items.ensures.events, c.site-site.ensures) (record { count = one_each _ c.said-values.ensures.history; all = refl })
