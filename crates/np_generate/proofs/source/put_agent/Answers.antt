use Rattle.np_syntax.proofs.Joining.{on_same}
use Rattle.np_generate.proofs.Lines.{agent_steps}
use Rattle.np_generate.proofs.source.put_agent.Goals as goal

pub returns : goal.returns
returns c =
    on_same c.put_words-4.result c.put_words-4.new.text
    (agent_steps c.args.text.now c.args.agent c.in_ok-put_words.ensures c.in_ok-put_name.ensures c.in_ok-put_words-2.ensures
    c.in_ok-put_number.ensures c.in_ok-put_words-3.ensures c.in_ok-put_next.ensures)
    c.put_words-4.ensures
