use Rattle.std.proofs.Common.{sym}
use Rattle.np_tables.proofs.LineLaws.{acts_enter, acts_same, others_enter, others_same}
use Rattle.np_tables.proofs.MarkLaws.{on_ok, on_err}
use Rattle.np_tables.proofs.by_errand.Lines.enter.Goals as goal

pub returns-then-eq-clause-ok : goal.returns-then-eq-clause-ok
returns-then-eq-clause-ok c =
    rw (← c.self.view_is)
    (on_ok c.insert.result (acts_enter c.self.inside.acts c.insert.new.self c.self.inside.others c.args.errand c.args.mark (sym c.if-eq.ensures)) c.insert.ensures.ok)

pub returns-then-eq-clause-err : goal.returns-then-eq-clause-err
returns-then-eq-clause-err c =
    rw (← c.self.view_is) (on_err c.insert.result (acts_same c.self.inside.acts c.insert.new.self c.self.inside.others) c.insert.ensures.err)

pub returns-else-eq-clause-ok : goal.returns-else-eq-clause-ok
returns-else-eq-clause-ok c =
    rw (← c.self.view_is)
    (on_ok c.enter.result (others_enter c.self.inside.acts c.self.inside.others c.enter.new.lines c.args.errand c.args.mark (sym c.if-eq.ensures)) c.enter.ensures.ok)

pub returns-else-eq-clause-err : goal.returns-else-eq-clause-err
returns-else-eq-clause-err c =
    rw (← c.self.view_is) (on_err c.enter.result (others_same c.self.inside.acts c.self.inside.others c.enter.new.lines) c.enter.ensures.err)
