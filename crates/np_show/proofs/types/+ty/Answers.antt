use Rattle.np_show.proofs.Pieces.{chan_steps, tuple_type_steps}
use Rattle.np_show.proofs.types.+ty.Goals as goal

pub put_type-returns-in-Chan : goal.put_type-returns-in-Chan
put_type-returns-in-Chan t c =
    chan_steps c.args.text.now c.put_cap.new.text c.put_type.new.text c.in-Chan.cap c.in-Chan.carried c.in-Chan.is c.get.ensures c.put_cap.ensures c.put_type.ensures

pub put_type-returns-in-Tuple : goal.put_type-returns-in-Tuple
put_type-returns-in-Tuple t c = tuple_type_steps c.args.text.now c.put_tuple_type.new.text c.in-Tuple.parts c.in-Tuple.is c.as_slice.ensures c.put_tuple_type.ensures
