use Rattle.std.proofs.Common.{◌≡◌, ◌++◌, ap, length, ◌∙◌}
use Rattle.shiviz_log.specs.Clocks.{after, at_first, clock_of, known_of, leaving, staying}
use Rattle.shiviz_log.specs.Logs.{entries, entry, first_lines}
use Rattle.shiviz_log.proofs.Logged.{entry-end, entry-more}
use Rattle.shiviz_log.proofs.log.log_text.Goals as goal

pub loop-step-init : goal.loop-step-init
loop-step-init c =
    ap (λ t. t ++ entries c.args.sites.now (known_of c.in_ok-clocks.clocks) c.args.steps.now) c.in_ok-text.ensures
    ∙ ap (λ k. first_lines ++ entries c.args.sites.now k c.args.steps.now) c.in_ok-clocks.ensures

pub loop-step-preserved : goal.loop-step-preserved
loop-step-preserved c =
    let steps = c.args.steps.now in
    let sites = c.args.sites.now in
    let i = c.loop-step.step-index in
    let k = known_of c.loop-step.clocks in
    let text = c.loop-step.text in
    let step = c.step-item.result in
    let timed : c.in_ok-clock.clock ≡ clock_of k step = c.in_ok-clock.ensures in
    let shown : c.as_slice.result.now ≡ c.in_ok-clock.clock = c.as_slice.ensures in
    entry-more sites k (known_of c.take.new.self) text c.put_entry.new.text _ steps i step c.loop-step-test.true
    (c.in_ok-put_entry.ensures ∙ ap (λ t. text ++ entry sites step t) (shown ∙ timed) ∙ ap (λ s. text ++ entry sites s (clock_of k s)) c.step-item.is)
    (c.in_ok-take.ensures ∙ ap (λ t. staying (leaving step.event.kind k step t) step t) timed ∙ ap (after k) c.step-item.is) c.loop-step.invariant

pub returns : goal.returns
returns c = entry-end c.args.sites.now (known_of c.loop-step.clocks) c.loop-step.text _ c.args.steps.now c.loop-step.step-index c.loop-step-test.false c.loop-step.invariant
