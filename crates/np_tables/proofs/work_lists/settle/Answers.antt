use Rattle.std.proofs.Common.{Some, sym, ap, subst, ◌∙◌}
use Rattle.np_tables.specs.Errands.{Work}
use Rattle.np_tables.specs.Lines.{InLines}
use Rattle.np_tables.proofs.LineLaws.{same_errand-is}
use Rattle.np_tables.proofs.WorkLaws.{settled_new, settled_same, settled_moved}
use Rattle.np_tables.proofs.work_lists.settle.Goals as goal

pub returns-in_default-clause-lines : goal.returns-in_default-clause-lines
returns-in_default-clause-lines c =
    subst (λ (w : Work). InLines w c.args.marks.now.lines) (sym c.exchange.ensures.items)
    (settled_new c.args.filed.now.items c.args.marks.now.lines c.args.errand c.args.mark c.requires.lines (sym c.exchange.ensures.before ∙ c.in_default.is))

pub returns-then-eq-clause-lines : goal.returns-then-eq-clause-lines
returns-then-eq-clause-lines c =
    subst (λ (w : Work). InLines w c.args.marks.now.lines) (sym c.exchange.ensures.items)
    (settled_same c.args.filed.now.items c.args.marks.now.lines c.args.errand c.args.mark c.requires.lines
    (sym c.exchange.ensures.before ∙ c.in-Some.is ∙ ap Some (same_errand-is c.in-Some.before c.args.errand (sym c.if-eq.ensures))))

pub returns-clause-lines : goal.returns-clause-lines
returns-clause-lines c =
    subst (λ (w : Work). InLines w c.remove.new.self.lines) (sym c.exchange.ensures.items)
    (settled_moved c.args.filed.now.items c.args.marks.now.lines c.args.errand c.args.mark c.requires.lines c.remove.new.self.lines c.in-Some.before
    (sym c.exchange.ensures.before ∙ c.in-Some.is) (sym c.if-eq.ensures) c.remove.ensures.lines)
