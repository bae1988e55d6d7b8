use Rattle.std.proofs.Common.{sym, subst}
use Rattle.np_tables.specs.Errands.{Work}
use Rattle.np_tables.specs.Lines.{InLines}
use Rattle.np_tables.proofs.WorkLaws.{removed, removed_none}
use Rattle.np_tables.proofs.work_lists.WorkLists.remove.Goals as goal

pub invariant_of-self : goal.invariant_of-self
invariant_of-self c =
    let lists = c.self.inside in
    let there = removed lists.filed.items lists.marks.lines c.args.mark c.self.invariant.in_lines c.remove.new.self.lines c.in-Some.errand c.in-Some.ensures.value c.remove.ensures.lines in
    record { in_lines = subst (λ (w : Work). InLines w c.remove.new.self.lines) (sym c.take.ensures.items) there; busy_at = c.remove.ensures.busy }

pub invariant_of-self-in_default : goal.invariant_of-self-in_default
invariant_of-self-in_default c =
    let lists = c.self.inside in
    let there = removed_none lists.filed.items lists.marks.lines c.args.mark c.self.invariant.in_lines c.in_default.ensures.value in
    record { in_lines = subst (λ (w : Work). InLines w lists.marks.lines) (sym c.take.ensures.items) there; busy_at = c.self.invariant.busy_at }
