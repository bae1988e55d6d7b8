use Rattle.np_tables.proofs.LineLaws.{has_line}
use Rattle.np_tables.proofs.by_errand.serve.Goals as goal

pub unreachable-requires : goal.unreachable-requires
unreachable-requires c = has_line c.args.lines.now c.args.errand c.requires c.in-None.ensures.value
