use Rattle.std.proofs.Common.{map, subst, take, ap, ◌∙◌}
use Rattle.picture_svg.specs.Pictures.{IsPicture}
use Rattle.look_pages.specs.declared.drafts.TheConstants.{MOST_ROWS}
use Rattle.look_pages.specs.ShownPages.{line_of}
use Rattle.look_pages.proofs.drafts.view_of.Goals as goal

pub returns : goal.returns
returns c = record {
  rows = c.in_ok-rows.ensures ∙ ap (λ s. map line_of (take MOST_ROWS s)) c.as_slice-steps.ensures;
  picture = subst (λ s. IsPicture s c.in_ok-picture.picture) c.in_ok-first.ensures.steps c.in_ok-picture.ensures;
}
