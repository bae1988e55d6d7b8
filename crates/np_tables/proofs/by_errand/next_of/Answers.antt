use Rattle.std.proofs.Common.{sym, ◌∙◌}
use Rattle.np_tables.proofs.LineLaws.{true_false, none_of-empty}
use Rattle.np_tables.proofs.by_errand.next_of.Goals as goal

pub unreachable-requires : goal.unreachable-requires
unreachable-requires c = true_false (sym c.requires ∙ none_of-empty c.args.line.now c.in-None.ensures.none)
