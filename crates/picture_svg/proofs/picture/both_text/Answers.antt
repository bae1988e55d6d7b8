use Rattle.std.proofs.Common.{subst}
use Rattle.std.proofs.lemmas.Result.{IfOk-weaker}
use Rattle.run_pictures.specs.Layouts.{IsLayout, IsBeside}
use Rattle.picture_svg.specs.Pictures.{IsPictureOfBoth}
use Rattle.picture_svg.specs.declared.style.TheConstants.{STYLE}
use Rattle.picture_svg.proofs.picture.both_text.Goals as goal

pub returns : goal.returns
returns c =
    IfOk-weaker c.both_svg.result _ (IsPictureOfBoth c.args.high.now.steps c.args.low.now.steps c.args.twins.now)
    (λ text is. record {
      below = c.in_ok-below.below;
      low_laid = subst (λ s. IsLayout s c.in_ok-below.below) c.as_slice-lows.ensures c.in_ok-below.ensures;
      above = c.in_ok-above.above;
      high_laid = subst (λ s. IsBeside s c.in_ok-below.below.marks c.args.twins.now c.in_ok-above.above) c.as_slice-highs.ensures c.in_ok-above.ensures;
      first = c.in_ok-first.first;
      first_drawn = c.in_ok-first.ensures.drawn;
      second = c.in_ok-second.second;
      second_drawn = c.in_ok-second.ensures.drawn;
      style = STYLE.now;
      written = is;
    }) c.both_svg.ensures
