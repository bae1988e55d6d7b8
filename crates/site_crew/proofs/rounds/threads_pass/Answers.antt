use Rattle.std.proofs.Common.{◌∙◌}
use Rattle.site_crew.proofs.Goings.{all_seated, seats_turned}
use Rattle.site_crew.proofs.Crewing.{grows_again, later_again}
use Rattle.site_crew.proofs.Passing.{all_turned}
use Rattle.site_crew.proofs.Standing.{stand_again}
use Rattle.site_crew.proofs.rounds.threads_pass.Goals as goal

pub threads_turns-requires-after_bounds : goal.threads_turns-requires-after_bounds
threads_turns-requires-after_bounds g c κs within = all_seated c.requires.stand.seats

pub settle_all-requires-after_bounds : goal.settle_all-requires-after_bounds
settle_all-requires-after_bounds g c κs within = (seats_turned c.requires.stand.seats (all_turned c.threads_turns.ensures)).linked

pub returns-clause-stand : goal.returns-clause-stand
returns-clause-stand g c = stand_again c.requires.stand.seats c.requires.stand.fresh c.requires.stand.steady
    (grows_again (all_turned c.threads_turns.ensures) c.settle_all.ensures.still) (all_turned c.threads_turns.ensures) c.settle_all.ensures.still c.settle_all.ensures.settled c.events_of.ensures.whole

pub returns-clause-count : goal.returns-clause-count
returns-clause-count g c = c.settle_all.ensures.still.count ∙ c.threads_turns.ensures.count

pub returns-clause-grow : goal.returns-clause-grow
returns-clause-grow g c = grows_again (all_turned c.threads_turns.ensures) c.settle_all.ensures.still

pub returns-clause-later : goal.returns-clause-later
returns-clause-later g c = later_again (all_turned c.threads_turns.ensures) c.settle_all.ensures.still

pub returns-clause-passed : goal.returns-clause-passed
returns-clause-passed g c = record { between = _; took = c.threads_turns.ensures; still = c.settle_all.ensures.still }
