use Rattle.std.proofs.Common.{sym}
use Rattle.np_tables.proofs.Tables.{born_again}
use Rattle.np_tables.proofs.line.Line.insert.Goals as goal

pub returns-then-has-clause-ok : goal.returns-then-has-clause-ok
returns-then-has-clause-ok c = rw (← c.self.view_is) (sym (born_again c.self.inside.marks c.args.mark (sym c.if-has.ensures)))
