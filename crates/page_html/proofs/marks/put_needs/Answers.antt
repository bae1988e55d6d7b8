use Rattle.std.proofs.Common.{ap}
use Rattle.markup_text.specs.declared.words.AttributeName.TheVariants as names
use Rattle.markup_text.proofs.Escaping.{value-written}
use Rattle.page_html.specs.Marks.{numbers}
use Rattle.page_html.proofs.marks.put_needs.Goals as goal

pub returns : goal.returns
returns c =
    value-written c.args.text.now c.open_value.new.text c.put_numbers.new.text c.close_value.new.text names.Needs (numbers c.args.numbers.now) c.open_value.ensures c.put_numbers.ensures
    c.close_value.ensures
