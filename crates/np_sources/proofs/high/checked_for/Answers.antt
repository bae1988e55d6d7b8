use Rattle.std.proofs.Common.{inl, refl, sym, ◌∙◌}
use Rattle.np_sources.proofs.Promises.{not_typed, residual}
use Rattle.np_sources.proofs.high.checked_for.Goals as goal

pub returns-in_err-checked-clause-refused : goal.returns-in_err-checked-clause-refused
returns-in_err-checked-clause-refused c =
    residual c.from_residual.result c.in_err-checked.field-0.0 _ c.from_residual.ensures
    (λ some. not_typed c.args.high c.args.bytes.now c.in_err-checked.field-0.0 (c.in_err-checked.ensures.refused some))

pub returns-in-Some-clause-refused : goal.returns-in-Some-clause-refused
returns-in-Some-clause-refused c = λ _. inl (record {
  program = c.in_ok-checked.checked;
  accepted = c.in_ok-checked.ensures.found;
  at = c.in-Some.at;
  bars = sym c.barred.ensures ∙ c.in-Some.is;
  is = refl;
})
