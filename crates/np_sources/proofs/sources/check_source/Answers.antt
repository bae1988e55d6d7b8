use Rattle.std.proofs.Common.{◌∙◌}
use Rattle.np_sources.proofs.sources.check_source.Goals as goal

pub returns-in-Ok-clause-made : goal.returns-in-Ok-clause-made
returns-in-Ok-clause-made c = record {
  program = c.in_ok-checked.checked;
  accepted = c.in_ok-checked.ensures.found;
  says = c.text_alone.ensures.text ∙ c.in-Ok.ensures;
  is_kept = c.text_alone.ensures.kept;
  is_high = c.text_alone.ensures.high;
}
