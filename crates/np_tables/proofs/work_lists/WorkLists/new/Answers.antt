use Rattle.np_tables.proofs.WorkLaws.{in_no_lines}
use Rattle.np_tables.proofs.work_lists.WorkLists.new.Goals as goal

pub invariant_of-result : goal.invariant_of-result
invariant_of-result c = record { in_lines = in_no_lines c.new.result.items c.new-2.result.lines c.new.ensures c.new-2.ensures.lines; busy_at = c.new-2.ensures.busy }
