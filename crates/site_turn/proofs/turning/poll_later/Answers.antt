use Rattle.site_turn.proofs.Events.{none_refl}
use Rattle.site_turn.proofs.Steps.{turned_refl}
use Rattle.site_turn.proofs.turning.poll_later.Goals as goal

pub returns-then-number-gt0-clause-turned : goal.returns-then-number-gt0-clause-turned
returns-then-number-gt0-clause-turned g c = turned_refl _

pub returns-then-number-gt0-clause-no : goal.returns-then-number-gt0-clause-no
returns-then-number-gt0-clause-no g c = λ e. none_refl _
