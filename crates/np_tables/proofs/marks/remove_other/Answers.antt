use Rattle.std.proofs.Common.{refl}
use Rattle.np_tables.proofs.MarkLaws.{none_cut}
use Rattle.np_tables.proofs.marks.remove_other.Goals as goal

pub returns-else-not-is_empty : goal.returns-else-not-is_empty
returns-else-not-is_empty c = none_cut c.args.others.now.members c.args.mark (c.if-not-is_empty.ensures.0 refl)
