use Rattle.std.specs.VecDeque.{deque_len}
use Rattle.agent_index.proofs.turns.Turns.tidy.Given as goal

abbrev pub decreases-loop-mark : goal.decreases-loop-mark
decreases-loop-mark g l = deque_len l.self.alone

abbrev pub decreases-loop-chan : goal.decreases-loop-chan
decreases-loop-chan g l = deque_len l.self.busy
