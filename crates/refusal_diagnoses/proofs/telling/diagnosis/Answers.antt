use Rattle.std.proofs.Common.{subst}
use Rattle.std.proofs.lemmas.Result.{IfOk-weaker}
use Rattle.refusal_diagnoses.specs.Diagnoses.{IsDiagnosis, IsPlaceOf}
use Rattle.refusal_diagnoses.proofs.telling.diagnosis.Goals as goal

pub returns : goal.returns
returns c =
    let bytes = c.args.bytes.now in
    let place = c.place_for-place.result in
    let of = subst (λ s. IsPlaceOf s bytes place) c.spot_of.ensures c.place_for-place.ensures in
    IfOk-weaker c.told_there.result _ (IsDiagnosis c.args.file.now bytes c.args.refusal)
    (λ text told. record { place = place; of = of; told = told }) c.told_there.ensures
