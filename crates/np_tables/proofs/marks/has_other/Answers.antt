use Rattle.std.proofs.Common.{refl}
use Rattle.np_tables.proofs.MarkLaws.{none_has}
use Rattle.np_tables.proofs.marks.has_other.Goals as goal

pub returns-then-is_empty : goal.returns-then-is_empty
returns-then-is_empty c = none_has c.args.others.now.members c.args.mark (c.if-is_empty.ensures.0 refl)
