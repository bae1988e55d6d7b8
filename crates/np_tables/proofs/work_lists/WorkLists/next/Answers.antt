use Rattle.np_tables.proofs.WorkLaws.{nothing_ready}
use Rattle.np_tables.proofs.work_lists.WorkLists.next.Goals as goal

pub returns-in_err-turn-in-None-clause-none : goal.returns-in_err-turn-in-None-clause-none
returns-in_err-turn-in-None-clause-none c =
    let lists = c.self.inside in
    rw (← c.self.view_is, c.from_residual.ensures)
    (nothing_ready lists.filed.items lists.marks.lines lists.marks.busy c.self.invariant.in_lines c.self.invariant.busy_at c.in_err-turn-in-None.ensures.none)
