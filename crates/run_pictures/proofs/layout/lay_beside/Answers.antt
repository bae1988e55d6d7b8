use Rattle.std.proofs.Common.{ap, length, subst, sym, ◌∙◌}
use Rattle.std.specs.List.{AllByRecursion}
use Rattle.run_pictures.specs.Posts.{IsPost}
use Rattle.run_pictures.specs.Rows.{rows_by}
use Rattle.run_pictures.specs.Columns.{Extends}
use Rattle.run_pictures.proofs.Layouts.{laid-beside}
use Rattle.run_pictures.proofs.layout.lay_beside.Goals as goal

pub returns : goal.returns
returns c =
    let columns = c.marks_beside.new.columns.list in
    laid-beside c.args.steps.now c.args.below.now.marks c.args.twins.now _ columns c.in_ok-marks.ensures.stand (subst (Extends columns) (sym c.into_list-made.ensures) c.in_ok-stood.ensures)
    (c.in_ok-marks.ensures.rows ∙ ap (λ below. rows_by below c.args.twins.now (length c.args.steps.now)) c.as_slice.ensures) c.in_ok-arrows.ensures
    (subst (λ cs. AllByRecursion (IsPost cs c.args.steps.now) c.in_ok-posts.posts) c.as_slice-standing.ensures c.in_ok-posts.ensures)
