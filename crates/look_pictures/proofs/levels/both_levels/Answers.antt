use Rattle.std.proofs.Common.{subst, sym}
use Rattle.std.proofs.lemmas.Result.{IfOk-weaker}
use Rattle.look_sources.specs.Lifts.{AreTwins}
use Rattle.look_pictures.specs.Looks.{IsPictureOfLevels}
use Rattle.look_pictures.proofs.levels.both_levels.Goals as goal

pub returns : goal.returns
returns c =
    let wanted = c.args.wanted.now in
    let events = c.args.events.now in
    IfOk-weaker c.shown_both.result _ (IsPictureOfLevels wanted.infrastructure events)
    (λ text is. record {
      high = c.in_ok-high.high.steps;
      low = c.in_ok-below.below.steps;
      of_high = c.in_ok-high.ensures;
      of_low = c.in_ok-below.ensures;
      numbers = c.as_slice-numbers.result.now;
      are_twins = subst (AreTwins wanted.infrastructure events) (sym c.as_slice-numbers.ensures) c.in_ok-twins.ensures;
      picture = is;
    }) c.shown_both.ensures
