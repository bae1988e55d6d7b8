-- What always holds of the work lists: the lines and the busy meetings are in step with what is filed.
use Rattle.np_tables.specs.Lines.{InLines, BusyAt}
use Rattle.np_tables.specs.declared.work_lists.WorkLists.TheInside.{Inside}

pub record InStep (lists : Inside) : Type 0 where
  pub in_lines : InLines lists.filed.items lists.marks.lines
  pub busy_at : BusyAt lists.marks.lines lists.marks.busy
