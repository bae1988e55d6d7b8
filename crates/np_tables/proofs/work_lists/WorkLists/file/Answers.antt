use Rattle.std.proofs.Common.{sym, subst}
use Rattle.np_tables.specs.Errands.{Work}
use Rattle.np_tables.specs.Lines.{InLinesAnd}
use Rattle.np_tables.proofs.WorkLaws.{entered}
use Rattle.np_tables.proofs.work_lists.WorkLists.file.Goals as goal

pub settle-requires-clause-lines : goal.settle-requires-clause-lines
settle-requires-clause-lines c =
    let lists = c.self.inside in
    let there = entered lists.filed.items lists.marks.lines c.add.new.self.lines c.args.errand c.args.mark c.self.invariant.in_lines c.in_ok-busy.ensures.ok in
    subst (λ (w : Work). InLinesAnd w c.add.new.self.lines c.args.errand c.args.mark) (sym c.reserve.ensures.items) there
