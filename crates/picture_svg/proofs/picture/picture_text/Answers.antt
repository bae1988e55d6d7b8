use Rattle.std.proofs.Common.{subst}
use Rattle.std.proofs.lemmas.Result.{IfOk-weaker}
use Rattle.run_pictures.specs.Layouts.{IsLayout}
use Rattle.picture_svg.specs.Pictures.{IsPicture}
use Rattle.picture_svg.specs.declared.style.TheConstants.{STYLE}
use Rattle.picture_svg.proofs.picture.picture_text.Goals as goal

pub returns : goal.returns
returns c =
    IfOk-weaker c.svg_text.result _ (IsPicture c.args.followed.now.steps)
    (λ text is. record {
      layout = c.in_ok-layout.layout;
      laid = subst (λ s. IsLayout s c.in_ok-layout.layout) c.as_slice-steps.ensures c.in_ok-layout.ensures;
      drawing = c.in_ok-drawing.drawing;
      drawn = c.in_ok-drawing.ensures.drawn;
      style = STYLE.now;
      written = is;
    }) c.svg_text.ensures
