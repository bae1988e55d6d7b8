use Rattle.np_low_text.proofs.Pieces.{tuple_pat_steps}
use Rattle.np_low_text.proofs.patterns.+pat.Goals as goal

pub put_pat-returns-in-Tuple : goal.put_pat-returns-in-Tuple
put_pat-returns-in-Tuple t c = tuple_pat_steps c.args.text.now c.put_tuple_pat.new.text c.in-Tuple.parts c.in-Tuple.is c.as_slice.ensures c.put_tuple_pat.ensures
