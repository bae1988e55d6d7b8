use Rattle.std.proofs.Common.{◌∙◌, sym}
use Rattle.np_show.proofs.Pieces.{bin_steps, tuple_steps}
use Rattle.np_show.proofs.expressions.+expr.Goals as goal

pub put_expr-returns-in-Tuple : goal.put_expr-returns-in-Tuple
put_expr-returns-in-Tuple t c =
    tuple_steps c.args.text.now c.put_tuple.new.text c.args.level c.in-Tuple.parts (sym c.get.ensures ∙ c.in-Tuple.is) c.as_slice-in-Tuple.ensures c.put_tuple.ensures

pub put_expr-returns-in-Bin : goal.put_expr-returns-in-Bin
put_expr-returns-in-Bin t c =
    bin_steps c.args.level c.args.text.now c.open_round.new.text c.put_expr.new.text c.put_op.new.text c.put_expr-in-Bin.new.text c.close_round.new.text c.in-Bin.x c.in-Bin.y (sym c.get.ensures ∙ c.in-Bin.is) c.strength.ensures
    c.left.ensures c.right.ensures c.open_round.ensures c.put_expr.ensures c.put_op.ensures c.put_expr-in-Bin.ensures c.close_round.ensures
