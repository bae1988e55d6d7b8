use Rattle.np_tables.proofs.WorkLaws.{nothing_ready, none_due}
use Rattle.np_tables.proofs.work_lists.WorkLists.is_quiet.Goals as goal

pub returns : goal.returns
returns c =
    let lists = c.self.inside in
    rw (← c.self.view_is) (
      (λ t. nothing_ready lists.filed.items lists.marks.lines lists.marks.busy c.self.invariant.in_lines c.self.invariant.busy_at (c.is_quiet.ensures.0 t)),
      (λ n. c.is_quiet.ensures.1 (none_due lists.filed.items lists.marks.lines lists.marks.busy c.self.invariant.in_lines c.self.invariant.busy_at n)),
    )
