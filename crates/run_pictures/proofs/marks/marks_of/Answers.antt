use Rattle.std.proofs.Common.{arith, ◌≡◌, ◌+◌, ◌++◌, Some, ap, map, drop, subst, sym, refl, ◌∙◌}
use Rattle.std.proofs.lemmas.Option.{slice_get-get_or}
use Rattle.run_pictures.specs.Columns.{StandFor}
use Rattle.run_pictures.specs.Rows.{middles, row_height}
use Rattle.run_pictures.specs.declared.layout.Mark.{Mark}
use Rattle.run_pictures.specs.declared.marks.TheConstants.{TOP}
use Rattle.run_pictures.proofs.Growing.{stand-more}
use Rattle.run_pictures.proofs.Rows.{rows-end, rows-more}
use Rattle.run_pictures.proofs.marks.marks_of.Goals as goal

pub loop-step-preserved : goal.loop-step-preserved
loop-step-preserved c =
    let steps = c.args.steps.now in
    let i = c.loop-step.step-index in
    let here = c.loop-step.invariant in
    let step = c.step-item.result in
    let high : c.row_height-height.result ≡ row_height step = c.row_height-height.ensures.is in
    record {
      high = omega (arith, c.row_height-height.ensures.most, here.high);
      stand = subst (λ ms. StandFor c.at.new.self.list ms steps (i + 1)) (sym c.in_ok-add.ensures)
          (stand-more c.loop-step.columns.list c.at.new.self.list c.loop-step.marks steps i _ step here.stand c.in_ok-column.ensures.extends
          (slice_get-get_or steps i step c.loop-step-test.true ∙ ap Some (sym c.step-item.is)) c.in_ok-column.ensures.at);
      rows = subst (λ ms. map (λ (mark : Mark). mark.y) ms ++ middles (c.loop-step.end + c.row_height-height.result) (drop (i + 1) steps) ≡ middles TOP steps) (sym c.in_ok-add.ensures)
          (rows-more c.loop-step.marks c.loop-step.end c.row_height-height.result steps i step _ (middles TOP steps) c.loop-step-test.true (high ∙ ap row_height c.step-item.is) refl here.rows);
    }

pub returns-clause-rows : goal.returns-clause-rows
returns-clause-rows c = rows-end c.loop-step.marks c.loop-step.end c.args.steps.now c.loop-step.step-index (middles TOP c.args.steps.now) c.loop-step-test.false c.loop-step.invariant.rows
