use Rattle.std.proofs.Common.{◌∙◌}
use Rattle.np_sources.proofs.sources.low_source.Goals as goal

pub returns-in-Ok-clause-made : goal.returns-in-Ok-clause-made
returns-in-Ok-clause-made c = record {
  low = c.in_ok-low.low;
  lowered = c.in_ok-low.ensures.made;
  lowers = c.text_alone.ensures.text ∙ c.in-Ok.ensures;
  is_kept = c.text_alone.ensures.kept;
  is_high = c.text_alone.ensures.high;
}
