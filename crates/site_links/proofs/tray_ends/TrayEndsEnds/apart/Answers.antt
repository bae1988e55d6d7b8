use Rattle.std.proofs.Common.{arith}
use Rattle.std.proofs.lemmas.Grind.{common_steps}
use Rattle.site_links.proofs.tray_ends.TrayEndsEnds.apart.Goals as goal

pub with_lists-requires-2 : goal.with_lists-requires-2
with_lists-requires-2 g c = grind (arith, common_steps)
