use Rattle.std.proofs.Common.{subst, sym}
use Rattle.std.specs.List.{AllByRecursion}
use Rattle.run_pictures.specs.Posts.{IsPost}
use Rattle.run_pictures.specs.Columns.{Extends}
use Rattle.run_pictures.proofs.Layouts.{laid-out}
use Rattle.run_pictures.proofs.layout.lay_out.Goals as goal

pub returns : goal.returns
returns c =
    let columns = c.marks_of.new.columns.list in
    laid-out c.args.steps.now _ columns c.in_ok-marks.ensures.stand (subst (Extends columns) (sym c.into_list-made.ensures) c.in_ok-stood.ensures) c.in_ok-marks.ensures.rows c.in_ok-arrows.ensures
    (subst (λ cs. AllByRecursion (IsPost cs c.args.steps.now) c.in_ok-posts.posts) c.as_slice-standing.ensures c.in_ok-posts.ensures)
