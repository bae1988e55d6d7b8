use Rattle.std.proofs.Common.{◌≡◌, ◌++◌}
use Rattle.std.proofs.lemmas.Result.{IfOk-weaker}
use Rattle.std.specs.Prelude.{codes}
use Rattle.text_writer.proofs.Writing.{finished, then}
use Rattle.source_places.specs.Shown.{shown_lines}
use Rattle.refusal_diagnoses.specs.Diagnoses.{IsUsage}
use Rattle.refusal_diagnoses.proofs.telling.usage_text.Goals as goal

pub returns : goal.returns
returns c =
    let lines = c.args.lines.now in
    let before = codes "np: 22 Usage\n" in
    let all = before ++ shown_lines lines in
    let first = c.new-text.result in
    let last = c.put_lines.new.text in
    IfOk-weaker c.finish.result (λ text. text ≡ all) IsUsage (λ text is. record { lines = lines; is = is })
    (finished first last all c.finish.result c.new-text.ensures (then first c.put.new.self last before (shown_lines lines) c.put.ensures c.put_lines.ensures) c.finish.ensures)
