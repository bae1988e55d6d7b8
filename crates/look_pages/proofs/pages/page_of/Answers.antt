use Rattle.std.proofs.Common.{map, ap, subst, ◌∙◌}
use Rattle.run_pictures.specs.declared.step.Followed.{Followed}
use Rattle.run_pictures.specs.declared.step.Step.{Step}
use Rattle.np_on_sites.specs.ByInfrastructure.{lift_by}
use Rattle.look_pages.specs.ShownPages.{IsPageOfSteps}
use Rattle.look_pages.proofs.pages.page_of.Goals as goal

pub returns-in-Ok-text_for : goal.returns-in-Ok-text_for
returns-in-Ok-text_for c =
    let high = c.join.new.high.followed in
    let low = c.join.new.low.followed in
    let told = λ (followed : Followed). map (λ (step : Step). step.event) followed.steps in
    record {
      highs = high.steps;
      lows = low.steps;
      of_high = ap told c.join.ensures.high ∙ (c.in_ok-high.ensures ∙ ap (lift_by c.args.wanted.now.infrastructure) c.as_slice-events.ensures);
      of_low = ap told c.join.ensures.low ∙ (c.in_ok-below.ensures ∙ c.as_slice-events.ensures);
      shows = subst (λ s. IsPageOfSteps s high.steps low.steps c.in-Ok-text_for.text) c.in-Ok-told_of.ensures c.in-Ok-text_for.ensures;
    }
