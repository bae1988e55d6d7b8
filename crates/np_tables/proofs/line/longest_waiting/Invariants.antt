use Rattle.std.specs.VecDeque.{deque_len}
use Rattle.np_tables.proofs.line.longest_waiting.Given as goal

abbrev pub decreases-loop-mark : goal.decreases-loop-mark
decreases-loop-mark l = deque_len l.order
