use Rattle.markup_text.specs.declared.words.AttributeName.TheVariants as names
use Rattle.markup_text.proofs.Escaping.{value-written}
use Rattle.page_html.specs.Sources.{class_word}
use Rattle.page_html.proofs.source.put_class.Goals as goal

pub returns : goal.returns
returns c =
    value-written c.args.text.now c.open_value.new.text c.put_class_word.new.text c.close_value.new.text names.Class (class_word c.args.class) c.open_value.ensures c.put_class_word.ensures
    c.close_value.ensures
