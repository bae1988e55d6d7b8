use Rattle.site_turn.proofs.Events.{sends_refl}
use Rattle.site_turn.proofs.Steps.{turned_refl}
use Rattle.site_turn.proofs.sending.send_last.Goals as goal

pub returns-else-is_site-clause-turned : goal.returns-else-is_site-clause-turned
returns-else-is_site-clause-turned g c = turned_refl _

pub returns-else-is_site-clause-only : goal.returns-else-is_site-clause-only
returns-else-is_site-clause-only g c = sends_refl _
