use Rattle.std.proofs.Common.{refl, sym, ◌∙◌}
use Rattle.run_choices.specs.Held.{held}
use Rattle.run_choices.proofs.Chosen.{choice-acts, chosen-is, none-idle}
use Rattle.run_choices.proofs.seeded.end_of.Goals as goal

pub returns-in-Some-clause-rest : goal.returns-in-Some-clause-rest
returns-in-Some-clause-rest c = (
  λ e. absurd cc,
  λ i. absurd (choice-acts c.args.last.now c.in-Some.field-0 c.requires.lodged
      (chosen-is c.args.last.now (held c.args.waiting.now) c.requires.lists _ c.in-Some.field-0 (sym c.chosen.ensures ∙ c.in-Some.is)) i),
)

pub returns-in-Some-clause-spent : goal.returns-in-Some-clause-spent
returns-in-Some-clause-spent c = (
  λ e. choice-acts c.args.last.now c.in-Some.field-0 c.requires.lodged
      (chosen-is c.args.last.now (held c.args.waiting.now) c.requires.lists _ c.in-Some.field-0 (sym c.chosen.ensures ∙ c.in-Some.is)),
  λ n. refl,
)

pub returns-in-None-clause-rest : goal.returns-in-None-clause-rest
returns-in-None-clause-rest c = (
  λ e. none-idle c.args.last.now (held c.args.waiting.now) c.requires.lists _ (sym c.chosen.ensures ∙ c.in-None.is),
  λ i. refl,
)

pub returns-in-None-clause-spent : goal.returns-in-None-clause-spent
returns-in-None-clause-spent c = (
  λ e. absurd cc,
  λ n. absurd (n (none-idle c.args.last.now (held c.args.waiting.now) c.requires.lists _ (sym c.chosen.ensures ∙ c.in-None.is))),
)
