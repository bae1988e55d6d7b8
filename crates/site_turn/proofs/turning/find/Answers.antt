use Rattle.site_turn.proofs.Events.{none_received, none_trans, one_after, one_received}
use Rattle.site_turn.proofs.Steps.{seated_after, turned_trans}
use Rattle.site_turn.proofs.turning.find.Goals as goal

pub look_often-requires-after_bounds : goal.look_often-requires-after_bounds
look_often-requires-after_bounds g c κs within = seated_after c.catch_up.ensures.turned c.requires

pub receive-requires-after_bounds : goal.receive-requires-after_bounds
receive-requires-after_bounds g c κs within = seated_after c.look_often.ensures.turned (seated_after c.catch_up.ensures.turned c.requires)

pub returns-then-look_often-clause-turned : goal.returns-then-look_often-clause-turned
returns-then-look_often-clause-turned g c = turned_trans c.catch_up.ensures.turned c.look_often.ensures.turned

pub returns-then-look_often-clause-yes : goal.returns-then-look_often-clause-yes
returns-then-look_often-clause-yes g c = λ e. one_after (c.catch_up.ensures.no c.if-catch_up.false) (c.look_often.ensures.yes c.if-look_often.true)

pub returns-clause-turned : goal.returns-clause-turned
returns-clause-turned g c = turned_trans (turned_trans c.catch_up.ensures.turned c.look_often.ensures.turned) c.receive.ensures.turned

pub returns-clause-yes : goal.returns-clause-yes
returns-clause-yes g c = λ e.
    let seated = seated_after c.look_often.ensures.turned (seated_after c.catch_up.ensures.turned c.requires) in
    one_after (none_trans (c.catch_up.ensures.no c.if-catch_up.false) (c.look_often.ensures.no c.if-look_often.false)) (one_received seated (c.receive.ensures.yes e))

pub returns-clause-no : goal.returns-clause-no
returns-clause-no g c = λ e.
    none_trans (none_trans (c.catch_up.ensures.no c.if-catch_up.false) (c.look_often.ensures.no c.if-look_often.false)) (none_received _ _ (c.receive.ensures.no e))
