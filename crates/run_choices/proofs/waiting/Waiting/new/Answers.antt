use Rattle.std.proofs.Common.{[], ap, subst, sym, unwrap_or}
use Rattle.std.specs.Map.{lookup}
use Rattle.np_tables.specs.Errands.{Work, same_errand}
use Rattle.run_choices.specs.Held.{InStep}
use Rattle.run_choices.specs.Lines.{line_of}
use Rattle.run_choices.proofs.Lists.{none-step}
use Rattle.run_choices.proofs.waiting.Waiting.new.Goals as goal

pub returns-clause-step : goal.returns-clause-step
returns-clause-step c =
    subst (λ (w : Work). InStep (record { work = w; line = line_of c.new-2.result; list = c.new-3.result.entries.keys })) (sym c.new.ensures)
    (none-step (line_of c.new-2.result) c.new-3.result.entries.keys (λ e. ap (λ es. unwrap_or (lookup (same_errand e) es) []) c.new-2.ensures.empty) c.new-3.ensures)
