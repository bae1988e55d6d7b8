use Rattle.std.proofs.Common.{sym, ap, ◌∙◌}
use Rattle.np_tables.specs.Lines.{has_some}
use Rattle.np_tables.proofs.LineLaws.{acts_leave, acts_line, others_leave, others_line, some-is_empty}
use Rattle.np_tables.proofs.by_errand.Lines.leave.Goals as goal

pub returns-then-eq-clause-lines : goal.returns-then-eq-clause-lines
returns-then-eq-clause-lines c =
    rw (← c.self.view_is) (acts_leave c.self.inside.acts c.remove.new.self c.self.inside.others c.args.errand c.args.mark (sym c.if-eq.ensures) c.remove.ensures)

pub returns-then-eq-clause-others : goal.returns-then-eq-clause-others
returns-then-eq-clause-others c =
    some-is_empty c.is_empty.result c.remove.new.self c.is_empty.ensures.0 c.is_empty.ensures.1
    ∙ ap has_some (acts_line c.remove.new.self c.self.inside.others c.args.errand (sym c.if-eq.ensures))

pub returns-else-eq-clause-lines : goal.returns-else-eq-clause-lines
returns-else-eq-clause-lines c =
    rw (← c.self.view_is)
    (others_leave c.self.inside.acts c.self.inside.others c.leave.new.lines c.args.errand c.args.mark (sym c.if-eq.ensures) c.leave.ensures.lines)

pub returns-else-eq-clause-others : goal.returns-else-eq-clause-others
returns-else-eq-clause-others c =
    c.leave.ensures.others ∙ ap has_some (others_line c.self.inside.acts c.leave.new.lines c.args.errand (sym c.if-eq.ensures))
