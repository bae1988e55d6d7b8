use Rattle.std.proofs.Common.{◌≡◌, ◌++◌, ◌∷◌, [], ap, ◌∙◌}
use Rattle.shiviz_log.specs.Clocks.{larger}
use Rattle.shiviz_log.proofs.Logged.{join-end, join-more}
use Rattle.shiviz_log.proofs.clocks.joined.Goals as goal

pub loop-site-preserved : goal.loop-site-preserved
loop-site-preserved c =
    join-more c.loop-site.made c.add.new.self _ c.args.clock.now c.args.other.now c.loop-site.site _ c.loop-site-test.true
    (c.in_ok-add.ensures ∙ ap (λ n. c.loop-site.made ++ n ∷ []) (c.larger.ensures ∙ ap (larger _) c.count_at.ensures)) c.loop-site.invariant

pub returns : goal.returns
returns c = join-end c.loop-site.made _ c.args.clock.now c.args.other.now c.loop-site.site c.loop-site-test.false c.loop-site.invariant
