use Rattle.std.specs.VecDeque.{deque_len}
use Rattle.np_tables.proofs.work_lists.due.Given as goal

abbrev pub decreases-loop-turn : goal.decreases-loop-turn
decreases-loop-turn l = deque_len l.turns.queue
