use Rattle.std.specs.Prelude.{codes, decimal}
use Rattle.markup_text.proofs.Escaping.{escaped-then}
use Rattle.page_html.proofs.marks.put_spaced.Goals as goal

pub returns : goal.returns
returns c =
    escaped-then c.args.text.now c.put_digits.new.text c.put_escaped.new.text (decimal c.args.number) (codes " ") c.put_digits.ensures c.put_escaped.ensures
