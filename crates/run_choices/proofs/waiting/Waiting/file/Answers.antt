use Rattle.std.proofs.Common.{true, Option, sym, subst}
use Rattle.np_tables.specs.Errands.{Work}
use Rattle.np_tables.proofs.MarkLaws.{on_ok}
use Rattle.choice_entries.specs.declared.entry.Entry.{Entry}
use Rattle.run_choices.specs.Held.{InStep}
use Rattle.run_choices.specs.Lines.{SetsEntry, line_of}
use Rattle.run_choices.proofs.Lists.{filed-step}
use Rattle.run_choices.proofs.waiting.Waiting.file.Goals as goal

pub returns-clause-step : goal.returns-clause-step
returns-clause-step c =
    let old = c.args.self.now in
    let after = c.set_entry.new.entries.keys in
    on_ok c.set_entry.result
    (λ sets.
    subst (λ (w : Work). InStep (record { work = w; line = line_of c.enter.new.lines; list = after })) (sym c.in_ok-insert.ensures.ok)
    (filed-step old.filed.items (line_of old.lines) (line_of c.enter.new.lines) old.list.entries.keys after c.args.errand c.args.mark c.requires.step c.requires.absent
    c.in_ok-enter.ensures
    (subst (λ (o : Option Entry). SetsEntry old.list.entries.keys after o true) c.opened_by-new.ensures sets)))
    c.set_entry.ensures
