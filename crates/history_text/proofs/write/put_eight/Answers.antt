use Rattle.history_text.proofs.Written.{eight_written}
use Rattle.history_text.proofs.write.put_eight.Goals as goal

pub returns : goal.returns
returns c =
    eight_written c.args.text.now c.put_actor.new.text c.put.new.self c.put_optional.new.text c.put-2.new.self c.put_tag.new.text c.put-3.new.self c.put_made.new.text
    c.args.event.now c.put_actor.ensures c.put.ensures c.put_optional.ensures c.put-2.ensures c.put_tag.ensures c.put-3.ensures c.put_made.ensures
