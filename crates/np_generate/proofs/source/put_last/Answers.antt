use Rattle.np_syntax.proofs.Joining.{on_same}
use Rattle.np_generate.proofs.Lines.{last_steps}
use Rattle.np_generate.proofs.source.put_last.Goals as goal

pub returns : goal.returns
returns c =
    on_same c.put_words-3.result c.put_words-3.new.text
    (last_steps c.args.text.now c.args.agents c.in_ok-put_words.ensures c.in_ok-put_number.ensures c.in_ok-put_words-2.ensures c.in_ok-put_name.ensures)
    c.put_words-3.ensures
