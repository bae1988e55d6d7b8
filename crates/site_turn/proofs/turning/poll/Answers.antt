use Rattle.site_turn.proofs.Events.{none_received, one_received}
use Rattle.site_turn.proofs.turning.poll.Goals as goal

pub returns-then-number-eq0-clause-yes : goal.returns-then-number-eq0-clause-yes
returns-then-number-eq0-clause-yes g c = λ e. one_received c.requires (c.receive.ensures.yes e)

pub returns-then-number-eq0-clause-no : goal.returns-then-number-eq0-clause-no
returns-then-number-eq0-clause-no g c = λ e. none_received _ _ (c.receive.ensures.no e)

pub returns-then-number-eq0-clause-first : goal.returns-then-number-eq0-clause-first
returns-then-number-eq0-clause-first g c = λ zero e. c.receive.ensures.no e
