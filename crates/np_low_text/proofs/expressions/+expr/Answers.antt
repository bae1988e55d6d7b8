use Rattle.std.proofs.Common.{◌∙◌, sym}
use Rattle.np_low_text.proofs.Pieces.{bin_steps, pack_steps, tuple_steps, with_steps}
use Rattle.np_low_text.proofs.expressions.+expr.Goals as goal

pub put_expr-returns-in-Tuple : goal.put_expr-returns-in-Tuple
put_expr-returns-in-Tuple t c =
    tuple_steps c.args.sites.now c.args.text.now c.put_tuple.new.text c.args.level c.in-Tuple.parts (sym c.get.ensures ∙ c.in-Tuple.is) c.as_slice.ensures c.put_tuple.ensures

pub put_expr-returns-in-Bin : goal.put_expr-returns-in-Bin
put_expr-returns-in-Bin t c =
    bin_steps c.args.sites.now c.args.level c.args.text.now c.open_round.new.text c.put_expr.new.text c.put_op.new.text c.put_expr-in-Bin.new.text c.close_round.new.text c.in-Bin.x c.in-Bin.y (sym c.get.ensures ∙ c.in-Bin.is)
    c.strength.ensures c.left.ensures c.right.ensures c.open_round.ensures c.put_expr.ensures c.put_op.ensures c.put_expr-in-Bin.ensures c.close_round.ensures

pub put_expr-returns-in-Pack : goal.put_expr-returns-in-Pack
put_expr-returns-in-Pack t c =
    pack_steps c.args.sites.now c.args.level c.args.text.now c.put.new.self c.put_expr-in-Pack.new.text c.put-in-Pack.new.self c.put_expr-in-Pack-2.new.text c.put-in-Pack-2.new.self c.in-Pack.chan c.in-Pack.value
    (sym c.get.ensures ∙ c.in-Pack.is) c.put.ensures c.put_expr-in-Pack.ensures c.put-in-Pack.ensures c.put_expr-in-Pack-2.ensures c.put-in-Pack-2.ensures

pub put_expr-returns-in-With : goal.put_expr-returns-in-With
put_expr-returns-in-With t c =
    with_steps c.args.sites.now c.args.level c.args.text.now c.put-in-With.new.self c.put_expr-in-With.new.text c.put-in-With-2.new.self c.put_expr-in-With-2.new.text c.put-in-With-3.new.self c.put_expr-in-With-3.new.text
    c.put-in-With-4.new.self c.in-With.places c.in-With.agent c.in-With.lock (sym c.get.ensures ∙ c.in-With.is) c.put-in-With.ensures c.put_expr-in-With.ensures c.put-in-With-2.ensures c.put_expr-in-With-2.ensures
    c.put-in-With-3.ensures c.put_expr-in-With-3.ensures c.put-in-With-4.ensures
