use Rattle.site_turn.proofs.Events.{sends_refl}
use Rattle.site_turn.proofs.Steps.{turned_refl}
use Rattle.site_turn.proofs.sending.send_new.Goals as goal

pub returns-else-has_put-clause-turned : goal.returns-else-has_put-clause-turned
returns-else-has_put-clause-turned g c = turned_refl _

pub returns-else-has_put-clause-only : goal.returns-else-has_put-clause-only
returns-else-has_put-clause-only g c = sends_refl _
