use Rattle.std.proofs.Common.{◌≡◌, ◌+◌, Some, ap, slice_get, subst, sym, ◌∙◌}
use Rattle.std.proofs.lemmas.Option.{slice_get-get_or}
use Rattle.run_pictures.specs.Columns.{StandFor}
use Rattle.run_pictures.specs.Rows.{row_by}
use Rattle.run_pictures.proofs.Growing.{stand-more}
use Rattle.run_pictures.proofs.Rows.{rows-beside}
use Rattle.run_pictures.proofs.marks.marks_beside.Goals as goal

pub loop-step-preserved : goal.loop-step-preserved
loop-step-preserved c =
    let steps = c.args.steps.now in
    let i = c.loop-step.step-index in
    let here = c.loop-step.invariant in
    let step = c.step-item.result in
    let twin : c.twin_at.result ≡ slice_get c.args.twins.now c.loop-step.place = c.twin_at.ensures in
    let row : c.row_by-y.result ≡ row_by c.args.below.now c.twin_at.result = c.row_by-y.ensures in
    record {
      counts = ap (λ n. n + 1) here.counts;
      stand = subst (λ ms. StandFor c.at.new.self.list ms steps (i + 1)) (sym c.in_ok-add.ensures)
          (stand-more c.loop-step.columns.list c.at.new.self.list c.loop-step.marks steps i _ step here.stand c.in_ok-column.ensures.extends
          (slice_get-get_or steps i step c.loop-step-test.true ∙ ap Some (sym c.step-item.is)) c.in_ok-column.ensures.at);
      rows = rows-beside c.loop-step.marks c.add.new.self c.args.below.now c.args.twins.now c.loop-step.place i _ here.counts c.in_ok-add.ensures
          (row ∙ ap (row_by c.args.below.now) twin) here.rows;
    }
