use Rattle.std.proofs.Common.{false, Option, sym, subst, ◌∙◌}
use Rattle.np_tables.specs.Errands.{Work}
use Rattle.np_tables.proofs.MarkLaws.{on_ok}
use Rattle.np_tables.proofs.Tables.{cut_absent}
use Rattle.choice_entries.specs.declared.entry.Entry.{Entry}
use Rattle.run_choices.specs.Held.{InStep}
use Rattle.run_choices.specs.Lines.{SetsEntry, line_of}
use Rattle.run_choices.proofs.Lists.{unfiled-step}
use Rattle.run_choices.proofs.waiting.Waiting.unfile.Goals as goal

pub returns-in_default-clause-step : goal.returns-in_default-clause-step
returns-in_default-clause-step c =
    let old = c.args.self.now in
    subst (λ (w : Work). InStep (record { work = w; line = line_of old.lines; list = old.list.entries.keys }))
    (sym (c.take.ensures.items ∙ cut_absent old.filed.items c.args.mark (sym c.in_default.ensures.value))) c.requires

pub returns-clause-step : goal.returns-clause-step
returns-clause-step c =
    let old = c.args.self.now in
    let after = c.set_entry.new.entries.keys in
    on_ok c.set_entry.result
    (λ sets.
    subst (λ (w : Work). InStep (record { work = w; line = line_of c.leave.new.lines; list = after })) (sym c.take.ensures.items)
    (unfiled-step old.filed.items (line_of old.lines) (line_of c.leave.new.lines) old.list.entries.keys after c.in-Some.errand c.args.mark c.requires (sym c.in-Some.ensures.value)
    c.in_ok-others.ensures.lines c.in_ok-others.others c.in_ok-others.ensures.others
    (subst (λ (o : Option Entry). SetsEntry old.list.entries.keys after o false) c.closed_by-gone.ensures sets)))
    c.set_entry.ensures
