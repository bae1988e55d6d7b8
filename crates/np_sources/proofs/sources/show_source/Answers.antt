use Rattle.std.proofs.Common.{◌∙◌}
use Rattle.np_sources.proofs.sources.show_source.Goals as goal

pub returns-in-Ok-clause-made : goal.returns-in-Ok-clause-made
returns-in-Ok-clause-made c = record {
  tree = c.in_ok-tree.tree;
  accepted = record { tokens = c.in_ok-tokens.tokens; lexed = c.in_ok-tokens.ensures.found; parsed = c.in_ok-tree.ensures.found };
  shows = c.text_alone.ensures.text ∙ c.in-Ok.ensures.text;
  is_kept = c.text_alone.ensures.kept;
  is_high = c.text_alone.ensures.high;
}
