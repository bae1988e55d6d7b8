use Rattle.std.proofs.Common.{sym, subst, arith, rules}
use Rattle.std.specs.Prelude.{All}
use Rattle.agent_index.specs.Lanes.{IsFree}
use Rattle.agent_index.proofs.LaneLaws.{no-rooms, no-filled}
use Rattle.agent_index.proofs.lanes.Lanes.new.Goals as goal

pub invariant_of-result : goal.invariant_of-result
invariant_of-result c = record {
  rooms = no-rooms c.new.result.items _ _ c.new.ensures;
  filled = no-filled c.new.result.items c.new.ensures;
  places = omega arith;
  stock = omega arith;
  stocked = subst (All IsFree) (sym c.new-2.ensures) (search rules);
}
