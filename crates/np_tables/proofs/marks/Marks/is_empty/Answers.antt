use Rattle.std.proofs.Common.{sym}
use Rattle.np_tables.proofs.LineLaws.{true_false}
use Rattle.np_tables.proofs.MarkLaws.{one_filled}
use Rattle.np_tables.proofs.marks.Marks.is_empty.Goals as goal

pub returns-in-Some : goal.returns-in-Some
returns-in-Some c = rw (← c.self.view_is) (
  (λ t. absurd (true_false (sym t))),
  (λ e. absurd (one_filled c.self.inside.one c.self.inside.others.members c.in-Some.field-0 c.in-Some.is e)),
)
