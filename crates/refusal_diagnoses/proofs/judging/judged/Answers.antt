use Rattle.std.proofs.Common.{inl, inr}
use Rattle.std.proofs.lemmas.Result.{IfOk-weaker}
use Rattle.refusal_diagnoses.specs.Judged.{IsJudged}
use Rattle.refusal_diagnoses.proofs.judging.judged.Goals as goal

pub returns-in-Ok : goal.returns-in-Ok
returns-in-Ok c = inl (record { program = c.in-Ok.checked; accepted = c.in-Ok.ensures.found; text = c.nothing.ensures.text; status = c.nothing.ensures.status })

pub returns-in-Err : goal.returns-in-Err
returns-in-Err c =
    IfOk-weaker c.told_source.result _ (IsJudged c.args.file.now c.args.bytes.now)
    (λ told is. inr (record { refusal = c.in-Err.refusal; faulty = c.in-Err.ensures.refused is.0; refused = is.1 })) c.told_source.ensures
