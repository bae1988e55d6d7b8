use Rattle.std.proofs.Common.{List, [], ℕ, map, sym, subst, refl}
use Rattle.std.proofs.lemmas.Iterator.Consumers.{YieldsList-at, YieldsList-end, YieldsList-so_far, YieldsList-turn}
use Rattle.std.proofs.lemmas.Iterator.Splits.{YieldsList-from_lines}
use Rattle.std.proofs.lemmas.Result.{err_from_is_err_and}
use Rattle.np_example_files.specs.declared.example.Example.{Example}
use Rattle.np_example_files.specs.Examples.{said}
use Rattle.np_example_files.specs.Reading.{AreRead, IsFaultAt, none}
use Rattle.np_example_files.proofs.Endings.{failing, fails_at, number_more, number_next, one_read}
use Rattle.np_example_files.proofs.reader.examples_of.Goals as goal

pub loop-line-init : goal.loop-line-init
loop-line-init g c = (subst (λ (xs : List Example). AreRead [] (map said xs)) (sym c.new-examples.ensures.items) none, refl)

pub loop-line-preserved : goal.loop-line-preserved
loop-line-preserved g c = (
  one_read c.loop-line.yielded c.in-Some.line c.saturating_add-number.result _ _ c.loop-line.invariant.0
      (number_next c.loop-line.yielded c.loop-line.number c.saturating_add-number.result c.loop-line.invariant.1 c.saturating_add-number.ensures) c.in_ok-read_line.ensures.made,
  number_more c.loop-line.yielded c.in-Some.line c.loop-line.number c.saturating_add-number.result c.loop-line.invariant.1 c.saturating_add-number.ensures,
)

pub returns-in_err-read_line-clause-refused : goal.returns-in_err-read_line-clause-refused
returns-in_err-read_line-clause-refused g c =
    let p = err_from_is_err_and c.from_residual.result c.from_residual.ensures.1 in
    let road = YieldsList-at c.into_iter-line-iterator.ensures.into_iter_gives (YieldsList-from_lines {s = c.lines-line-items.result} c.args.text.now c.lines-line-items.ensures.rest) in
    failing c.args.text.now c.from_residual.result p.0
    (fails_at c.args.text.now c.loop-line.yielded c.in-Some.line c.saturating_add-number.result (map said c.loop-line.examples.items) p.0
    (YieldsList-so_far road c.loop-line.yielded _ c.loop-line.yielded_by)
    (YieldsList-turn road c.loop-line.yielded _ c.loop-line.yielded_by _ _ c.in-Some.line c.in-Some.is c.next.ensures.steps)
    c.loop-line.invariant.0
    (number_next c.loop-line.yielded c.loop-line.number c.saturating_add-number.result c.loop-line.invariant.1 c.saturating_add-number.ensures)
    (subst (IsFaultAt c.saturating_add-number.result c.in-Some.line.now (map said c.loop-line.examples.items)) (sym p.2) c.in_err-read_line.ensures.refused))
    p.1

pub returns-clause-made : goal.returns-clause-made
returns-clause-made g c =
    let road = YieldsList-at c.into_iter-line-iterator.ensures.into_iter_gives (YieldsList-from_lines {s = c.lines-line-items.result} c.args.text.now c.lines-line-items.ensures.rest) in
    let all = YieldsList-end road c.loop-line.yielded _ c.loop-line.yielded_by _ _ c.in-None.is c.next.ensures.steps in
    subst (λ (ls : List (List ℕ)). AreRead ls (map said c.loop-line.examples.items)) all.0 c.loop-line.invariant.0
