use Rattle.np_tables.proofs.LineLaws.{given_up}
use Rattle.np_tables.proofs.by_errand.give_up.Goals as goal

pub returns : goal.returns
returns c = given_up c.args.lines.now c.swap_remove.new.self c.args.errand c.requires c.swap_remove.ensures.updates.0
