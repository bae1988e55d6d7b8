use Rattle.std.proofs.Common.{◌≡◌, ◌++◌}
use Rattle.std.proofs.lemmas.Result.{IfOk-weaker}
use Rattle.text_writer.proofs.Writing.{finished, then}
use Rattle.source_places.specs.Shown.{shown_lines}
use Rattle.refusal_diagnoses.specs.Diagnoses.{IsToldThere, header}
use Rattle.refusal_diagnoses.proofs.telling.told_there.Goals as goal

pub returns : goal.returns
returns c =
    let lines = c.as_slice.result.now in
    let file = c.args.file.now in
    let before = header file c.args.place c.args.refusal in
    let all = before ++ shown_lines lines in
    let first = c.new-text.result in
    let last = c.put_lines.new.text in
    IfOk-weaker c.finish.result (λ text. text ≡ all) (IsToldThere file c.args.place c.args.refusal) (λ text is. record { lines = lines; is = is })
    (finished first last all c.finish.result c.new-text.ensures (then first c.put_header.new.text last before (shown_lines lines) c.put_header.ensures c.put_lines.ensures) c.finish.ensures)
