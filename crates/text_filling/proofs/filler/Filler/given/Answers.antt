use Rattle.std.proofs.Common.{sym, ◌∙◌, refl, length, arith}
use Rattle.text_filling.proofs.Nths.{nth-get}
use Rattle.std.proofs.lemmas.Result.{IfOk-weaker}
use Rattle.std.proofs.lemmas.Option.{slice_get_read}
use Rattle.text_filling.proofs.filler.Filler.given.Goals as goal

pub returns : goal.returns
returns c =
    let xs = c.args.self.given.now in
    let l = c.in-Some.ensures.lookup in
    IfOk-weaker c.copy.result _ _ (λ e is. is ∙ sym (nth-get (λ e. e.now) xs c.args.place c.in-Some.expr.now (slice_get_read xs (length xs) c.args.place c.in-Some.expr.now refl (omega arith) l.1))) c.copy.ensures
