use Rattle.std.specs.Prelude.{codes, decimal}
use Rattle.markup_text.proofs.Escaping.{escaped-then}
use Rattle.page_html.proofs.source.put_agent_word.Goals as goal

pub returns : goal.returns
returns c =
    escaped-then c.args.text.now c.put_escaped.new.text c.put_digits.new.text (codes "n a") (decimal c.args.hue) c.put_escaped.ensures c.put_digits.ensures
