use Rattle.site_turn.proofs.Events.{none_trans, one_after}
use Rattle.site_turn.proofs.Steps.{seated_after, turned_trans}
use Rattle.site_turn.proofs.turning.catch_up.Goals as goal

pub send-requires-after_bounds : goal.send-requires-after_bounds
send-requires-after_bounds g c κs within = seated_after c.settle_self.ensures.turned c.requires

pub receive_told-requires-after_bounds : goal.receive_told-requires-after_bounds
receive_told-requires-after_bounds g c κs within = seated_after c.send.ensures.turned (seated_after c.settle_self.ensures.turned c.requires)

pub returns-clause-turned : goal.returns-clause-turned
returns-clause-turned g c = turned_trans (turned_trans c.settle_self.ensures.turned c.send.ensures.turned) c.receive_told.ensures.turned

pub returns-clause-yes : goal.returns-clause-yes
returns-clause-yes g c = λ e. one_after (none_trans c.settle_self.ensures.none c.send.ensures.only.site) (c.receive_told.ensures.yes e)

pub returns-clause-no : goal.returns-clause-no
returns-clause-no g c = λ e. none_trans (none_trans c.settle_self.ensures.none c.send.ensures.only.site) (c.receive_told.ensures.no e)
