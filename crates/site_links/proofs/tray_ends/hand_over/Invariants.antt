use Rattle.std.proofs.Common.{◌≡◌, ◌≤◌, ◌+◌, ◌++◌, length}
use Rattle.std.specs.VecDeque.{deque_len, deque_capacity}
use Rattle.rtrb.specs.Ring.{sent, received, SameProducer, SameConsumer}
use Rattle.site_links.proofs.tray_ends.hand_over.Given as goal

abbrev pub invariant-loop-item : goal.invariant-loop-item
invariant-loop-item g l = record {
  ring : SameProducer l.fn.to l.to × SameConsumer l.fn.from l.from;
  even : received l.from ≡ sent l.to;
  out : deque_capacity l.out ≡ deque_capacity l.fn.out;
  inside : (l.inside.items ++ l.out.items ≡ l.fn.inside.items ++ l.fn.out.items) × (deque_capacity l.inside ≡ deque_capacity l.fn.inside);
  put : sent l.to ++ l.out.items ≡ sent l.fn.to ++ l.fn.out.items;
  passed : received l.from ++ l.out.items ≡ received l.fn.from ++ l.fn.out.items;
  room : length l.inside.items + length l.out.items ≤ deque_capacity l.inside;
}

abbrev pub decreases-loop-item : goal.decreases-loop-item
decreases-loop-item g l = deque_len l.out
