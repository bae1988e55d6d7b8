use Rattle.std.proofs.Common.{◌≡◌, ap, ◌∙◌}
use Rattle.shiviz_log.specs.Logs.{site_name, with_count}
use Rattle.shiviz_log.proofs.Logged.{count-end, count-more}
use Rattle.shiviz_log.proofs.entries.clock_text.Goals as goal

pub loop-site-preserved : goal.loop-site-preserved
loop-site-preserved c =
    let sites = c.args.sites.now in let i = c.loop-site.site in let text = c.loop-site.text in
    count-more sites text c.put_count.new.text _ c.args.clock.now i 0 c.loop-site-test.true
    (c.in_ok-put_count.ensures ∙ ap (λ name. with_count text name c.count_at.result) c.site_name.ensures
    ∙ ap (λ n. with_count text (site_name sites i) n) c.count_at.ensures) c.loop-site.invariant

pub returns : goal.returns
returns c = count-end c.args.sites.now c.loop-site.text _ c.args.clock.now c.loop-site.site c.loop-site-test.false c.loop-site.invariant
