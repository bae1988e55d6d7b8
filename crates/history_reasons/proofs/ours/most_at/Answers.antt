use Rattle.history_reasons.specs.Counts.{events_at}
use Rattle.history_reasons.proofs.Greatest.{one-more}
use Rattle.history_reasons.proofs.ours.most_at.Goals as goal

pub loop-site-preserved : goal.loop-site-preserved
loop-site-preserved c =
    one-more (λ s. events_at s c.args.events.now) c.loop-site.most c.count_at.result c.max-most.result c.loop-site.site c.loop-site.invariant c.count_at.ensures c.max-most.ensures
