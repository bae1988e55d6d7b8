use Rattle.std.proofs.Common.{◌++◌}
use Rattle.markup_text.specs.Escapes.{escaped}
use Rattle.page_html.specs.Marks.{numbers, spaced}
use Rattle.page_html.proofs.Counted.{escaped-end, escaped-on}
use Rattle.page_html.proofs.marks.put_numbers.Goals as goal

pub loop-number-preserved : goal.loop-number-preserved
loop-number-preserved c =
    let first = c.args.text.now in
    escaped-on spaced first c.loop-number.text c.put_spaced.new.text (first.text ++ escaped (numbers c.args.numbers.now)) c.args.numbers.now c.loop-number.number-index 0 c.loop-number-test.true
    c.put_spaced.ensures c.loop-number.invariant

pub returns : goal.returns
returns c =
    let first = c.args.text.now in
    escaped-end spaced first c.loop-number.text (first.text ++ escaped (numbers c.args.numbers.now)) c.args.numbers.now c.loop-number.number-index c.loop-number-test.false c.loop-number.invariant
