use Rattle.std.proofs.Common.{◌≡◌, ◌+◌, ◌++◌, ap, ◌∙◌}
use Rattle.run_pictures.specs.Parts.{is_shown, one_if}
use Rattle.run_pictures.proofs.PartSteps.{part-end, part-more}
use Rattle.run_pictures.proofs.parts.steps_in.Goals as goal

pub loop-step-preserved : goal.loop-step-preserved
loop-step-preserved c =
    let part = c.args.part.now in
    let i = c.loop-step.step-index in
    let made = c.loop-step.made in
    let step = c.step-item.result in
    let here = c.loop-step.invariant in
    let shown : c.is_shown.result ≡ is_shown part c.loop-step.place step = c.is_shown.ensures in
    record {
      counts = ap (λ n. n + 1) here.counts;
      made = part-more part made c.add_if.new.made _ c.args.all.now i step c.loop-step-test.true
          (c.in_ok-add_if.ensures ∙ ap (λ b. made ++ one_if b step) (shown ∙ ap (λ n. is_shown part n step) here.counts)
          ∙ ap (λ s. made ++ one_if (is_shown part i s) s) c.step-item.is) here.made;
    }

pub returns : goal.returns
returns c = part-end c.args.part.now c.loop-step.made _ c.args.all.now c.loop-step.step-index c.loop-step-test.false c.loop-step.invariant.made
